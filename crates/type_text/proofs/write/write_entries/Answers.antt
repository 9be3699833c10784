use Rattle.type_text.specs.Canonical.{lines_of_row, rows}
use Rattle.type_text.proofs.Writing.{groups_more, groups_exit}
use Rattle.type_text.proofs.write.write_entries.Goals as goal

pub returns-in_err-write_row : goal.returns-in_err-write_row
returns-in_err-write_row g c =
    let below = rw c.rows-row-end.ensures.exact at c.loop-row-test.true in
    groups_exit c.items_in_turn.ensures (lines_of_row c.args.file.now c.args.entries) (rows c.args.file.now c.args.entries) c.loop-row.row below c.loop-row.invariant c.in_err-write_row.ensures c.from_residual.ensures.1

pub loop-row-preserved : goal.loop-row-preserved
loop-row-preserved g c = groups_more c.texts_in_turn.ensures.joined (lines_of_row c.args.file.now c.args.entries) c.loop-row.row c.loop-row.invariant c.in_ok-write_row.ensures
