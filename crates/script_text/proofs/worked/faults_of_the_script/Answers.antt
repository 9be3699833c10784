use Rattle.std.proofs.Common.{refl}
use Rattle.type_table.specs.Name.{is_name}
use Rattle.line_text.specs.Shapes.{is_key, exactly, name_at, number_at, kind_at}
use Rattle.line_text.specs.LineTests.{line_fault, words_fault, item_fault}
use Rattle.line_text.specs.Outcome.{outcome_of, first_fault}
use Rattle.store_text.specs.Body.{line_of, max_of_words, object_of_words, nameless_of_words, end_of_words}
use Rattle.script_text.specs.Commands.{command_of, begin_command_of, call_command_of, commit_command_of, abort_command_of, rollback_command_of}
use Rattle.script_text.proofs.worked.faults_of_the_script.Goals as goal

pub returns : goal.returns
unfolding outcome_of first_fault line_fault words_fault item_fault is_key exactly name_at is_name number_at kind_at line_of max_of_words object_of_words nameless_of_words end_of_words command_of begin_command_of call_command_of commit_command_of abort_command_of rollback_command_of
returns c = record {
  low_limit = refl;
  high_limit = refl;
  no_limit = refl;
  second_limit = refl;
  unknown_kind = refl;
  high_file = refl;
  late_object = refl;
  name_before_number = refl;
  leading_zero = refl;
  number_missing = refl;
  event_line = refl;
  no_object = refl;
  no_end = refl;
  second_end = refl;
}
