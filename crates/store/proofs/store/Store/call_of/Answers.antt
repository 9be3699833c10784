use Rattle.std.proofs.Common.{◌++◌, ap, sym, ◌∙◌}
use Rattle.type_table.specs.Table.{first_op}
use Rattle.declared_types.specs.Declarations.{table_of}
use Rattle.serial_order.specs.Replay.{call_at}
use Rattle.store.proofs.OpCalls.{object-found}
use Rattle.store.proofs.store.Store.call_of.Goals as goal

pub returns : goal.returns
returns g c =
    let inside = c.self.inside in
    let lookup = c.in_ok-object.ensures.lookup in
    let there = object-found g.R.Recovery.meaning inside.objects.items c.deref.result.now inside.transactions.rows (inside.past.items ++ inside.history.items) inside.limits inside.forgotten c.args.self.now c.args.x
    c.self.view_is c.deref.ensures.value c.in_ok-object.object.now lookup.0 lookup.1 in
    c.first_op.ensures ∙ ap (first_op (table_of c.declared.result.now)) c.as_bytes.ensures.value ∙ ap (λ f. first_op f.table c.args.name.now) c.declared.ensures.exact ∙ sym (ap (λ o. call_at o c.args.name.now) there)
