use Rattle.std.proofs.Common.{Ok}
use Rattle.std.specs.Option.{option_to_list}
use Rattle.type_text.specs.Canonical.{line_at, columns}
use Rattle.type_text.proofs.Writing.{groups_more, groups_exit}
use Rattle.type_text.proofs.write.write_row.Goals as goal

pub returns-in_err-write_cell : goal.returns-in_err-write_cell
returns-in_err-write_cell g c =
    let below = rw c.columns-column-end.ensures at c.loop-column-test.true in
    let stop = rw c.line_at.ensures at c.in_err-write_cell.ensures in
    groups_exit c.items_in_turn.ensures (λ column. option_to_list (line_at c.args.file.now c.args.entries c.args.row column)) (columns c.args.file.now c.args.entries) c.loop-column.column below c.loop-column.invariant stop c.from_residual.ensures.1

pub loop-column-preserved : goal.loop-column-preserved
loop-column-preserved g c =
    let next = rw c.line_at.ensures at c.in_ok-write_cell.ensures in
    groups_more c.texts_in_turn.ensures.joined {result = Ok tt} (λ column. option_to_list (line_at c.args.file.now c.args.entries c.args.row column)) c.loop-column.column c.loop-column.invariant next
