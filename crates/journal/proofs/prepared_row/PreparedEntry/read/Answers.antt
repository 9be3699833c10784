use Rattle.std.proofs.Common.{arith}
use Rattle.journal.proofs.PreparedCells.{told_row}
use Rattle.journal.proofs.prepared_row.PreparedEntry.read.Goals as goal

pub returns : goal.returns
returns c =
    told_row c.args.row.now c.args.position c.prepared_in.result (omega (arith, c.len.ensures, c.if-len.false)) (c.is_at.ensures.at c.if-not-is_at.false) (c.is_at.ensures.own c.if-not-is_at.false) c.prepared_in.ensures
