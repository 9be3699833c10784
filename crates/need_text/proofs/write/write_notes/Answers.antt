use Rattle.std.proofs.Common.{Ok}
use Rattle.need_text.specs.Text.{row_text}
use Rattle.pair_needs.specs.declared.explained.Row.{Row}
use Rattle.need_text.proofs.Writing.{items_exit, items_more}
use Rattle.need_text.proofs.write.write_notes.Goals as goal

pub returns-in_err-write_row_notes : goal.returns-in_err-write_row_notes
returns-in_err-write_row_notes g c =
    items_exit c.items_in_turn.ensures (λ (x : Row). row_text c.args.kind c.args.file.now c.args.led.now x) c.args.rows.now c.loop-row.row-index c.row-item.result c.loop-row-test.true c.row-item.is
    c.loop-row.invariant (rw c.deref.ensures.value at c.in_err-write_row_notes.ensures) c.from_residual.ensures.1

pub loop-row-preserved : goal.loop-row-preserved
loop-row-preserved g c =
    items_more c.texts_in_turn.ensures.joined {result = Ok tt} (λ (x : Row). row_text c.args.kind c.args.file.now c.args.led.now x) c.args.rows.now c.loop-row.row-index c.row-item.result c.loop-row-test.true
    c.row-item.is c.loop-row.invariant (rw c.deref.ensures.value at c.in_ok-write_row_notes.ensures)
