use Rattle.std.proofs.Common.{◌≡◌, Some, refl}
use Rattle.std.proofs.lemmas.Option.{none-some}
use Rattle.type_table.specs.Operation.{operation_at}
use Rattle.number_types.specs.declared.number_op.NumberOp.TheVariants.{Take, Value}
use Rattle.number_types.specs.Examples.{purse}
use Rattle.number_types.proofs.Called.{stands}
use Rattle.number_types.proofs.PurseExamples.{purse_is, legal_amount}
use Rattle.number_types.proofs.worked_places.calls_of_the_purse.Goals as goal

pub returns : goal.returns
returns c = record {
  value = stands c.number_has_table.ensures purse 4 (operation_at 6 (Some 0)) (operation_at 6 (Some 4)) (Value 0) (Value 4) purse_is refl refl refl refl refl;
  other_value = λ h.
      let same : Some 4 ≡ Some 0 = legal_amount c.number_has_table.ensures 4 (operation_at 6 (Some 0)) (operation_at 6 (Some 0)) (operation_at 6 (Some 4)) (Value 0) (Value 4) refl refl refl refl h in
      cc;
  listed = stands c.number_has_table.ensures purse 4 0 0 (Take 3) (Take 3) purse_is refl refl refl refl refl;
  as_any = λ h.
      none-some 3 (legal_amount c.number_has_table.ensures 4 (operation_at 2 (Some 3)) (operation_at 2 (Some 3)) 0 (Take 3) (Take 3) refl refl refl refl h);
}
