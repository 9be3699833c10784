use Rattle.std.proofs.Common.{refl}
use Rattle.type_table.specs.Name.{is_name}
use Rattle.line_text.specs.Shapes.{is_key, exactly, name_at}
use Rattle.line_text.specs.LineTests.{line_fault, words_fault, item_fault}
use Rattle.line_text.specs.Outcome.{outcome_of, first_fault}
use Rattle.line_text.specs.LongNumbers.{long_number_at}
use Rattle.number_text.specs.NumberLines.{line_of, called_of, numbered_of, says_any, any_or_numbered, bare_of}
use Rattle.number_text.proofs.worked.faults_of_the_credit.Goals as goal

pub returns : goal.returns
unfolding outcome_of first_fault line_fault words_fault item_fault is_key exactly name_at is_name long_number_at line_of called_of numbered_of says_any any_or_numbered bare_of
returns c = record {
  two_words = refl;
  other_word = refl;
  eleven_digits = refl;
  large_max = refl;
  no_max = refl;
  initial_past = refl;
  no_amount = refl;
  same_amount = refl;
  second_any = refl;
  late_amount = refl;
  no_initial = refl;
  no_call = refl;
  no_end = refl;
  second_end = refl;
}
