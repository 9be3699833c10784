use Rattle.std.proofs.Common.{arith}
use Rattle.journal.proofs.ObjectCells.{named}
use Rattle.journal.proofs.object_row.name_in.Goals as goal

pub returns : goal.returns
returns c = named c.args.row.now c.in_ok-text_in.field-0.now c.from_bytes.result _ (omega (arith, c.len.ensures, c.if-len.false)) c.in_ok-text_in.ensures c.from_bytes.ensures
