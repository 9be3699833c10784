use Rattle.table_families.proofs.Bits.{set-bit}
use Rattle.table_families.proofs.set.with_element.Goals as goal

pub returns : goal.returns
returns c = set-bit c.args.i c.args.s c.requires
