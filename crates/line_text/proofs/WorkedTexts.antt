-- The definition of a text's outcome, computed at worked texts.
use Rattle.std.proofs.Common.{refl}
use Rattle.line_text.specs.Shapes.{is_key, exactly, number_at}
use Rattle.line_text.specs.LineTests.{line_fault, words_fault, item_fault}
use Rattle.line_text.specs.Outcome.{outcome_of, first_fault}
use Rattle.line_text.specs.Example.{WorkedTexts}

-- each is computed
pub worked_texts : WorkedTexts
unfolding outcome_of first_fault line_fault words_fault item_fault is_key exactly number_at
worked_texts = record {
  value = refl;
  long_line = refl;
  empty = refl;
  one_empty_line = refl;
  tab = refl;
  too_long = refl;
  no_line_feed = refl;
  unknown = refl;
  word_count = refl;
  leading_zero = refl;
  eight_digits = refl;
  range = refl;
  third_op = refl;
  state = refl;
  second_single = refl;
  lower_rank = refl;
  same_entry = refl;
  lower_entry = refl;
  no_op = refl;
  put_first = refl;
  no_end = refl;
  behind_end = refl;
  twice = refl;
}
