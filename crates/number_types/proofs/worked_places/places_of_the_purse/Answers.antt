use Rattle.std.proofs.Common.{Some, refl, arith}
use Rattle.number_types.specs.declared.number_op.NumberOp.TheVariants.{Take, Full, Value}
use Rattle.type_table.specs.Operation.{operation_at}
use Rattle.number_types.specs.Examples.{purse}
use Rattle.number_types.proofs.LinePlaces.{place_from}
use Rattle.number_types.proofs.PurseExamples.{purse_is, purse_has}
use Rattle.number_types.proofs.worked_places.places_of_the_purse.Goals as goal

pub returns : goal.returns
returns c = record {
  first = purse_has 0 (Take 3) refl;
  second = purse_has (operation_at 5 (Some 9)) (Full 9) refl;
  value = purse_has (operation_at 6 (Some 0)) (Value 0) refl;
  no_second = λ has. let only = (place_from purse 7 purse_is has).1 refl in omega (arith, only);
  past = λ has. let below = (place_from purse 8 purse_is has).0 in omega (arith, below);
}
