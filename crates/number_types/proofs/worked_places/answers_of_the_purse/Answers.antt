use Rattle.std.proofs.Common.{Some, refl, arith}
use Rattle.type_table.specs.Operation.{operation_at}
use Rattle.number_types.specs.declared.number_op.NumberOp.TheVariants.{Take, Give, Full, Value}
use Rattle.number_types.specs.Operations.{NumberHasTable, number_table}
use Rattle.number_types.specs.Called.{IsOneLegal, NumbersAnswer}
use Rattle.number_types.specs.Examples.{purse}
use Rattle.number_types.proofs.PurseExamples.{purse_answers, one_answer}
use Rattle.number_types.proofs.worked_places.answers_of_the_purse.Goals as goal

taken : NumberHasTable → NumbersAnswer → IsOneLegal (number_table purse) (Some 4) 0 0
taken tables answers = purse_answers tables answers 4 0 0 (Take 3) (Take 3) (omega arith) refl refl refl refl

value : NumberHasTable → NumbersAnswer → IsOneLegal (number_table purse) (Some 4) (operation_at 6 (Some 0)) (operation_at 6 (Some 4))
value tables answers = purse_answers tables answers 4 (operation_at 6 (Some 0)) (operation_at 6 (Some 4)) (Value 0) (Value 4) (omega arith) refl refl refl refl

pub returns : goal.returns
returns c =
    let tables = c.number_has_table.ensures in
    let answers = c.numbers_answer.ensures in
    record {
      taken = taken tables answers;
      full = purse_answers tables answers 4 (operation_at 4 (Some 9)) (operation_at 5 (Some 9)) (Give 9) (Full 9) (omega arith) refl refl refl refl;
      value = value tables answers;
      other_reply = λ h. let same = one_answer 4 0 0 1 (taken tables answers) h in omega (arith, same);
      other_value = λ h.
          let same = one_answer 4 (operation_at 6 (Some 0)) (operation_at 6 (Some 4)) (operation_at 6 (Some 0)) (value tables answers) h in
          omega (arith, same);
    }
