use Rattle.std.proofs.Common.{arith, rules}
use Rattle.journal.proofs.ObjectCells.{no_more}
use Rattle.journal.proofs.object_row.object_in.Goals as goal

pub returns-then-len-eq-NAME : goal.returns-then-len-eq-NAME
returns-then-len-eq-NAME c = record { kind = search rules; file = search rules; name = no_more c.args.row.now (omega (arith, c.len.ensures, c.if-len-eq-NAME.true)) }
