use Rattle.std.proofs.Common.{◌++◌, ap, sym, ◌∙◌}
use Rattle.type_table.specs.Table.{call_of, first_op}
use Rattle.store.specs.Calls.{op_call_at}
use Rattle.store.proofs.OpCalls.{object-found}
use Rattle.store.proofs.store.Store.call_of_op.Goals as goal

pub returns : goal.returns
returns g c =
    let inside = c.self.inside in
    let lookup = c.in_ok-object.ensures.lookup in
    let there = object-found g.R.Recovery.meaning inside.objects.items c.deref.result.now inside.transactions.rows (inside.past.items ++ inside.history.items) inside.limits inside.forgotten c.args.self.now c.args.x
    c.self.view_is c.deref.ensures.value c.in_ok-object.object.now lookup.0 lookup.1 in
    c.call_of_operation.ensures ∙ ap (λ f. first_op f.table (call_of f.table c.args.k)) c.declared.ensures.exact ∙ sym (ap (λ o. op_call_at o c.args.k) there)
