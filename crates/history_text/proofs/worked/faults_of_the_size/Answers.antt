use Rattle.std.proofs.Common.{refl}
use Rattle.line_text.specs.Shapes.{is_key, exactly, number_at, kind_at}
use Rattle.line_text.specs.LongNumbers.{long_number_at}
use Rattle.line_text.specs.LineTests.{line_fault, words_fault, item_fault}
use Rattle.line_text.specs.Outcome.{outcome_of, first_fault}
use Rattle.store_text.specs.Body.{line_of, size_of_words, object_of_words, nameless_of_words, end_of_words}
use Rattle.history_text.specs.Events.{event_line_of, begin_event_of, op_event_of, counted_of, listed_of, busy_of, nothing_of, commit_event_of, abort_event_of, rollback_event_of}
use Rattle.history_text.proofs.worked.faults_of_the_size.Goals as goal

pub returns : goal.returns
unfolding outcome_of first_fault line_fault words_fault item_fault is_key exactly number_at long_number_at kind_at line_of size_of_words object_of_words nameless_of_words end_of_words event_line_of begin_event_of op_event_of counted_of listed_of busy_of nothing_of commit_event_of abort_event_of rollback_event_of
returns c = record {
  high_object = refl;
  high_file = refl;
  object_too_many = refl;
  no_size = refl;
  high_size = refl;
  leading_zero = refl;
  more_words = refl;
  second_size = refl;
  late_size = refl;
  size_in_a_comment = refl;
}
