use Rattle.outputs.proofs.Turns.{Puts-exit_at}
use Rattle.need_text.specs.Text.{op_line}
use Rattle.need_text.proofs.pair_lines.write_op_lines.Goals as goal

pub returns-in_err-write_op_line : goal.returns-in_err-write_op_line
returns-in_err-write_op_line g c =
    Puts-exit_at c.items_in_turn.ensures (op_line c.args.t) c.args.ops.now c.loop-k.k-index _ c.loop-k-test.true c.loop-k.invariant c.in_err-write_op_line.ensures c.from_residual.ensures.1
