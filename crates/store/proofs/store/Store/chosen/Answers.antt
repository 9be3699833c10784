use Rattle.std.proofs.Common.{◌≡◌, ◌++◌, map, vec_len, Some, slice_get, sym, subst, ◌∙◌, rules}
use Rattle.std.proofs.lemmas.List.{length-map}
use Rattle.serial_order.specs.History.{summary}
use Rattle.serial_order.specs.Replay.{call_event}
use Rattle.store_laws.specs.Stored.{Stored, objects}
use Rattle.store_laws.specs.Words.{as_event}
use Rattle.store.proofs.Answered.{IsCalled, called-inside, called-of, answer-defined}
use Rattle.store.proofs.store.Store.chosen.Given.{Over}
use Rattle.store.proofs.store.Store.chosen.Goals as goal

pub index-requires : goal.index-requires
index-requires g c =
    let inside = c.self.inside in
    rw c.number.ensures.exact
    (called-inside (map g.R.Recovery.meaning inside.objects.items) inside.transactions.rows (inside.past.items ++ inside.history.items) inside.limits inside.forgotten c.args.self.now c.args.x c.args.call.now
    c.self.view_is c.requires.call (vec_len inside.objects) (length-map inside.objects.items g.R.Recovery.meaning ∙ sym inside.objects.ok.0))

-- what is known of the call before it is answered
asked : (g : Over) (c : goal.After-choose-arg-1 g)
    → IsCalled (map g.R.Recovery.meaning c.self.inside.objects.items) c.self.inside.transactions.rows (c.self.inside.past.items ++ c.self.inside.history.items)
    c.args.t c.args.x c.args.call.now (g.R.Recovery.meaning c.index.result.now)
asked g c =
    let inside = c.self.inside in
    called-of g.R.Recovery.meaning inside.objects.items inside.transactions.rows (inside.past.items ++ inside.history.items) inside.limits inside.forgotten c.args.self.now c.args.t c.args.x c.args.call.now
    c.index.result.now c.self.view_is c.self.invariant.1.store.kept c.requires.still_open c.requires.call (rw c.number.ensures.exact at c.index.ensures)

pub choose-requires : goal.choose-requires
choose-requires g c = (search rules, (asked g c).is_call)

pub returns : goal.returns
returns g c =
    let inside = c.self.inside in
    let called =
    called-of g.R.Recovery.meaning inside.objects.items inside.transactions.rows (inside.past.items ++ inside.history.items) inside.limits inside.forgotten c.args.self.now c.args.t c.args.x c.args.call.now
    c.index.result.now c.self.view_is c.self.invariant.1.store.kept c.requires.still_open c.requires.call (rw c.number.ensures.exact at c.index.ensures) in
    subst (λ (z : Stored). call_event (slice_get (objects z) c.args.x) (summary z.history) c.args.x c.args.t (Some c.args.call.now.first) ≡ Some (as_event c.args.t c.args.x c.args.call.now.first c.choose.result)) c.self.view_is
    (answer-defined called c.choose.ensures c.answers_as_defined.ensures)
