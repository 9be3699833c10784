use Rattle.need_text.specs.Text.{row_line}
use Rattle.pair_needs.specs.declared.explained.Row.{Row}
use Rattle.need_text.proofs.Writing.{items_exit}
use Rattle.need_text.proofs.write.write_letters.Goals as goal

pub returns-in_err-write_row : goal.returns-in_err-write_row
returns-in_err-write_row g c =
    items_exit c.items_in_turn.ensures (λ (x : Row). row_line c.args.table.now x) c.args.rows.now c.loop-row.row-index c.row-item.result c.loop-row-test.true c.row-item.is
    c.loop-row.invariant c.in_err-write_row.ensures c.from_residual.ensures.1
