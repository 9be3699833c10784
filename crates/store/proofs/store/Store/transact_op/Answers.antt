use Rattle.std.proofs.Common.{◌≡◌, ◌++◌, map, Some, refl, slice_get, sym, ap, subst, ◌∙◌}
use Rattle.type_table.specs.Table.{call_of}
use Rattle.object_calls.specs.Calls.{HoldsCalls, IsCall}
use Rattle.object_trait.specs.Object.{object_of}
use Rattle.store_laws.specs.Stored.{objects}
use Rattle.store.specs.WholeCalls.{TransactsCall}
use Rattle.store.proofs.Known.{its-calls, numbered-there}
use Rattle.store.proofs.Calls.{calls-shown}
use Rattle.store.proofs.OpCalls.{object-found}
use Rattle.store.proofs.WholeCalls.{numbered-transacts}
use Rattle.store.proofs.store.Store.transact_op.Goals as goal

pub by_number-requires : goal.by_number-requires
by_number-requires g c =
    let inside = c.self.inside in
    let s = c.args.self.now in
    let meaning = g.R.Recovery.meaning in
    let there : slice_get (objects s) c.args.x ≡ Some (object_of (meaning c.in-Some.object.now).checked) =
    object-found meaning inside.objects.items c.deref.result.now inside.transactions.rows (inside.past.items ++ inside.history.items) inside.limits inside.forgotten s c.args.x
    c.self.view_is c.deref.ensures.value c.in-Some.object.now c.in-Some.ensures.lookup.0 c.in-Some.ensures.lookup.1 in
    let known = calls-shown (map meaning inside.objects.items) inside.transactions.rows (inside.past.items ++ inside.history.items) inside.limits inside.forgotten s c.self.view_is
    inside.calls.items c.self.invariant.1.known in
    subst (λ f. HoldsCalls f.table c.index.result.now) (sym c.declared.ensures.exact)
    (its-calls s.types inside.calls.items known c.args.x (object_of (meaning c.in-Some.object.now).checked) there inside.calls.items c.index.result.now refl c.index.ensures)

pub transact-requires-after_bounds : goal.transact-requires-after_bounds
transact-requires-after_bounds g c κs bounds =
    let inside = c.self.inside in
    let s = c.args.self.now in
    let meaning = g.R.Recovery.meaning in
    let there : slice_get (objects s) c.args.x ≡ Some (object_of (meaning c.in-Some.object.now).checked) =
    object-found meaning inside.objects.items c.deref.result.now inside.transactions.rows (inside.past.items ++ inside.history.items) inside.limits inside.forgotten s c.args.x
    c.self.view_is c.deref.ensures.value c.in-Some.object.now c.in-Some.ensures.lookup.0 c.in-Some.ensures.lookup.1 in
    let is_call : IsCall (object_of (meaning c.in-Some.object.now).checked).table c.in-Some-by_number.call = subst (λ f. IsCall f.table c.in-Some-by_number.call) c.declared.ensures.exact c.in-Some-by_number.ensures.call.1 in
    (object_of (meaning c.in-Some.object.now).checked, ap (slice_get (objects s)) c.of.ensures ∙ there, is_call)

pub returns-in-Some-by_number : goal.returns-in-Some-by_number
returns-in-Some-by_number g c =
    let inside = c.self.inside in
    let s = c.args.self.now in
    let meaning = g.R.Recovery.meaning in
    let there : slice_get (objects s) c.args.x ≡ Some (object_of (meaning c.in-Some.object.now).checked) =
    object-found meaning inside.objects.items c.deref.result.now inside.transactions.rows (inside.past.items ++ inside.history.items) inside.limits inside.forgotten s c.args.x
    c.self.view_is c.deref.ensures.value c.in-Some.object.now c.in-Some.ensures.lookup.0 c.in-Some.ensures.lookup.1 in
    let is_call : IsCall (object_of (meaning c.in-Some.object.now).checked).table c.in-Some-by_number.call = subst (λ f. IsCall f.table c.in-Some-by_number.call) c.declared.ensures.exact c.in-Some-by_number.ensures.call.1 in
    let named = numbered-there (slice_get (objects s) c.args.x) (object_of (meaning c.in-Some.object.now).checked) there c.in-Some-by_number.call is_call ∙ ap (λ n. Some n) c.in-Some-by_number.ensures.call.0 in
    numbered-transacts s c.transact.new.self c.args.w c.args.x c.args.c (call_of (object_of (meaning c.in-Some.object.now).checked).table c.in-Some-by_number.call.first) c.transact.result named
    (subst (λ n. TransactsCall s c.args.w c.args.x n c.transact.result c.transact.new.self) c.in-Some-by_number.ensures.call.0 (rw c.of.ensures at c.transact.ensures))
