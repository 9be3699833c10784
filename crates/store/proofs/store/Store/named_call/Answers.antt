use Rattle.std.proofs.Common.{◌++◌, map, refl, sym, subst}
use Rattle.object_calls.specs.Calls.{HoldsCalls}
use Rattle.object_trait.specs.Object.{object_of}
use Rattle.store.proofs.Known.{its-calls}
use Rattle.store.proofs.Calls.{calls-shown}
use Rattle.store.proofs.store.Store.named_call.Goals as goal

pub by_name-requires : goal.by_name-requires
by_name-requires g c =
    let inside = c.self.inside in
    let s = c.args.self.now in
    let meaning = g.R.Recovery.meaning in
    let known = calls-shown (map meaning inside.objects.items) inside.transactions.rows (inside.past.items ++ inside.history.items) inside.limits inside.forgotten s c.self.view_is
    inside.calls.items c.self.invariant.1.known in
    subst (λ f. HoldsCalls f.table c.index.result.now) (sym c.declared.ensures.exact)
    (its-calls s.types inside.calls.items known c.args.x (object_of (meaning c.in_ok-object.object.now).checked) c.in_ok-object.ensures.there inside.calls.items c.index.result.now refl c.index.ensures)
