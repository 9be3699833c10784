-- The number of the worked examples is covered.
use Rattle.std.proofs.Common.{refl}
use Rattle.escrow_laws.specs.Laws.{BoundsAreNumeric, NumbersHaveTables}
use Rattle.escrow_laws.proofs.Examples.{are_within}
use Rattle.object_trait.specs.Object.{IsCovered}
use Rattle.serial_order.specs.Examples.{fives, number_object}

pub number-covered : NumbersHaveTables → BoundsAreNumeric → IsCovered number_object
number-covered tables numeric = record {
  begins_inside = refl;
  closed = λ s k t member step. refl;
  numeric = numeric number_object.table 10 fives (tables number_object.table 10 fives refl refl (are_within 10 fives refl));
}
