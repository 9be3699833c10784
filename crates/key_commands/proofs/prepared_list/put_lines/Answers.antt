use Rattle.std.proofs.Common.{Err, subst}
use Rattle.outputs.specs.Out.{Puts}
use Rattle.outputs.proofs.Turns.{Puts-exit_at}
use Rattle.key_commands.specs.declared.held_transactions.HeldTransaction.{HeldTransaction}
use Rattle.key_commands.specs.Prepared.{held_line}
use Rattle.key_commands.proofs.prepared_list.put_lines.Goals as goal

pub returns-in_err-put_held_line : goal.returns-in_err-put_held_line
returns-in_err-put_held_line g c =
    let stop = subst (λ (held : HeldTransaction). Puts (g.W.Out.taken c.loop-one.out) (g.W.Out.taken c.put_held_line.new.out) (g.W.Out.fault c.put_held_line.new.out) (held_line held) (Err c.in_err-put_held_line.field-0.0)) c.one-item.is c.in_err-put_held_line.ensures in
    Puts-exit_at c.items_in_turn.ensures held_line c.args.held.now c.loop-one.one-index c.one-item.result c.loop-one-test.true c.loop-one.invariant stop c.from_residual.ensures.1
