use Rattle.journal.proofs.ObjectCells.{told_row}
use Rattle.journal.proofs.object_row.ObjectLineEntry.read.Goals as goal

pub returns : goal.returns
returns c = told_row c.args.row.now c.args.position c.object_in.result (c.is_at.ensures.at c.if-not-is_at.false) (c.is_at.ensures.own c.if-not-is_at.false) c.object_in.ensures
