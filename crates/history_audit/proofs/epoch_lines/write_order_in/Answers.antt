use Rattle.outputs.proofs.Turns.{Puts-exit_at}
use Rattle.history_audit.specs.EpochText.{commit_line_in}
use Rattle.history_audit.proofs.epoch_lines.write_order_in.Goals as goal

pub returns-in_err-write_commit_in : goal.returns-in_err-write_commit_in
returns-in_err-write_commit_in g c =
    Puts-exit_at c.items_in_turn.ensures (commit_line_in c.args.epoch) c.args.order.now c.loop-t.t-index _ c.loop-t-test.true c.loop-t.invariant c.in_err-write_commit_in.ensures c.from_residual.ensures.1
