use Rattle.outputs.proofs.Turns.{Puts-exit_at}
use Rattle.history_audit.specs.Text.{committed_line}
use Rattle.history_audit.proofs.write.write_order.Goals as goal

pub returns-in_err-write_commit : goal.returns-in_err-write_commit
returns-in_err-write_commit g c =
    Puts-exit_at c.items_in_turn.ensures committed_line c.args.order.now c.loop-t.t-index _ c.loop-t-test.true c.loop-t.invariant c.in_err-write_commit.ensures c.from_residual.ensures.1
