use Rattle.std.proofs.Common.{arith}
use Rattle.table_families.proofs.Bits.{clear-bit}
use Rattle.table_families.proofs.set.without_element.Goals as goal

pub returns : goal.returns
returns c = clear-bit c.args.i c.args.s c.requires (omega arith)
