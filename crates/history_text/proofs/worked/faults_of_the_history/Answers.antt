use Rattle.std.proofs.Common.{refl}
use Rattle.line_text.specs.Shapes.{is_key, exactly, number_at, kind_at}
use Rattle.line_text.specs.LongNumbers.{long_number_at}
use Rattle.line_text.specs.LineTests.{line_fault, words_fault, item_fault}
use Rattle.line_text.specs.Outcome.{outcome_of, first_fault}
use Rattle.store_text.specs.Body.{line_of, object_of_words, nameless_of_words, end_of_words}
use Rattle.history_text.specs.Events.{event_line_of, begin_event_of, op_event_of, counted_of, listed_of, busy_of, nothing_of, commit_event_of, abort_event_of, rollback_event_of}
use Rattle.history_text.proofs.worked.faults_of_the_history.Goals as goal

pub returns : goal.returns
unfolding outcome_of first_fault line_fault words_fault item_fault is_key exactly number_at long_number_at kind_at line_of object_of_words nameless_of_words end_of_words event_line_of begin_event_of op_event_of counted_of listed_of busy_of nothing_of commit_event_of abort_event_of rollback_event_of
returns c = record {
  limit_line = refl;
  no_object = refl;
  high_file = refl;
  high_worker = refl;
  high_transaction = refl;
  high_object = refl;
  high_operation = refl;
  high_amount = refl;
  long_amount = refl;
  high_holder = refl;
  nothing_struck = refl;
  leading_zero = refl;
  number_missing = refl;
  late_object = refl;
  no_end = refl;
  second_end = refl;
}
