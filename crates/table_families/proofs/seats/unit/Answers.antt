use Rattle.std.proofs.Common.{arith}
use Rattle.std.proofs.Math.Nat.{one-le-pow}
use Rattle.table_families.proofs.Threes.{small-power}
use Rattle.table_families.proofs.seats.unit.Goals as goal

pub pow-requires : goal.pow-requires
pow-requires c = omega (arith, small-power c.args.i c.requires)

pub returns-clause-some : goal.returns-clause-some
returns-clause-some c = omega (arith, c.pow.ensures, one-le-pow c.args.i 3 (omega arith))

pub returns-clause-small : goal.returns-clause-small
returns-clause-small c = omega (arith, c.pow.ensures, small-power c.args.i c.requires)
