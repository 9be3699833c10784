use Rattle.outputs.proofs.Turns.{Puts-exit_at}
use Rattle.std.proofs.Common.{◌∷◌}
use Rattle.need_text.specs.Text.{op_word}
use Rattle.need_text.proofs.write.write_listed.Goals as goal

pub returns-in_err-write_op : goal.returns-in_err-write_op
returns-in_err-write_op g c =
    Puts-exit_at c.items_in_turn.ensures (λ k. 32 ∷ op_word c.args.ops.now k) c.args.numbers.now c.loop-k.k-index _ c.loop-k-test.true c.loop-k.invariant c.in_err-write_op.ensures c.from_residual.ensures.1
