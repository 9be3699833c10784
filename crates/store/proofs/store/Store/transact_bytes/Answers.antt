use Rattle.std.proofs.Common.{◌≡◌, ◌++◌, map, Some, refl, slice_get, sym, ap, subst, ◌∙◌}
use Rattle.type_table.specs.Table.{first_op}
use Rattle.object_calls.specs.Calls.{HoldsCalls, IsCall}
use Rattle.object_trait.specs.Object.{object_of}
use Rattle.serial_order.specs.Replay.{call_at}
use Rattle.store_laws.specs.Stored.{objects}
use Rattle.store.proofs.Known.{its-calls}
use Rattle.store.proofs.Calls.{calls-shown}
use Rattle.store.proofs.OpCalls.{object-found}
use Rattle.store.proofs.WholeCalls.{named-transacts}
use Rattle.store.proofs.store.Store.transact_bytes.Goals as goal

pub by_name-requires : goal.by_name-requires
by_name-requires g c =
    let inside = c.self.inside in
    let s = c.args.self.now in
    let meaning = g.R.Recovery.meaning in
    let there : slice_get (objects s) c.args.x ≡ Some (object_of (meaning c.in-Some.object.now).checked) =
    object-found meaning inside.objects.items c.deref.result.now inside.transactions.rows (inside.past.items ++ inside.history.items) inside.limits inside.forgotten s c.args.x
    c.self.view_is c.deref.ensures.value c.in-Some.object.now c.in-Some.ensures.lookup.0 c.in-Some.ensures.lookup.1 in
    let known = calls-shown (map meaning inside.objects.items) inside.transactions.rows (inside.past.items ++ inside.history.items) inside.limits inside.forgotten s c.self.view_is
    inside.calls.items c.self.invariant.1.known in
    subst (λ f. HoldsCalls f.table c.index.result.now) (sym c.declared.ensures.exact)
    (its-calls s.types inside.calls.items known c.args.x (object_of (meaning c.in-Some.object.now).checked) there inside.calls.items c.index.result.now refl c.index.ensures)

pub transact-requires-after_bounds : goal.transact-requires-after_bounds
transact-requires-after_bounds g c κs bounds =
    let inside = c.self.inside in
    let s = c.args.self.now in
    let meaning = g.R.Recovery.meaning in
    let there : slice_get (objects s) c.args.x ≡ Some (object_of (meaning c.in-Some.object.now).checked) =
    object-found meaning inside.objects.items c.deref.result.now inside.transactions.rows (inside.past.items ++ inside.history.items) inside.limits inside.forgotten s c.args.x
    c.self.view_is c.deref.ensures.value c.in-Some.object.now c.in-Some.ensures.lookup.0 c.in-Some.ensures.lookup.1 in
    let is_call : IsCall (object_of (meaning c.in-Some.object.now).checked).table c.in-Some-by_name.call = subst (λ f. IsCall f.table c.in-Some-by_name.call) c.declared.ensures.exact c.in-Some-by_name.ensures.call in
    (object_of (meaning c.in-Some.object.now).checked, ap (slice_get (objects s)) c.of.ensures ∙ there, is_call)

pub returns-in-Some-by_name : goal.returns-in-Some-by_name
returns-in-Some-by_name g c =
    let inside = c.self.inside in
    let s = c.args.self.now in
    let meaning = g.R.Recovery.meaning in
    let there : slice_get (objects s) c.args.x ≡ Some (object_of (meaning c.in-Some.object.now).checked) =
    object-found meaning inside.objects.items c.deref.result.now inside.transactions.rows (inside.past.items ++ inside.history.items) inside.limits inside.forgotten s c.args.x
    c.self.view_is c.deref.ensures.value c.in-Some.object.now c.in-Some.ensures.lookup.0 c.in-Some.ensures.lookup.1 in
    let named : call_at (slice_get (objects s) c.args.x) c.args.name.now ≡ Some c.in-Some-by_name.call.first =
    ap (λ a. call_at a c.args.name.now) there ∙ ap (λ f. first_op f.table c.args.name.now) (sym c.declared.ensures.exact) ∙ sym c.in-Some-by_name.ensures.named in
    named-transacts s c.transact.new.self c.args.w c.args.x c.in-Some-by_name.call.first c.args.name.now c.transact.result named (rw c.of.ensures at c.transact.ensures)
