use Rattle.std.proofs.Common.{ℕ}
use Rattle.need_text.specs.Numeric.{bounds_line}
use Rattle.need_text.proofs.Writing.{items_exit}
use Rattle.need_text.proofs.numeric.write_bounds.Goals as goal

pub returns-in_err-write_bounds_line : goal.returns-in_err-write_bounds_line
returns-in_err-write_bounds_line g c =
    items_exit c.items_in_turn.ensures (λ (k : ℕ). bounds_line c.args.checked.now.file.table k) c.args.ops.now c.loop-k.k-index c.k-item.result c.loop-k-test.true c.k-item.is
    c.loop-k.invariant c.in_err-write_bounds_line.ensures c.from_residual.ensures.1
