use Rattle.std.proofs.Common.{refl}
use Rattle.type_table.specs.Name.{is_name}
use Rattle.line_text.specs.Shapes.{is_key, exactly, name_at, number_at, kind_at}
use Rattle.line_text.specs.LineTests.{line_fault, words_fault, item_fault}
use Rattle.line_text.specs.Outcome.{outcome_of, first_fault}
use Rattle.store_text.specs.Body.{line_of, size_of_words, max_of_words, object_of_words, nameless_of_words, named_of_words, object_name_at, end_of_words}
use Rattle.object_name.specs.ObjectName.{is_object_name}
use Rattle.script_text.specs.Commands.{command_of, begin_command_of, call_command_of, commit_command_of, abort_command_of, rollback_command_of}
use Rattle.script_text.proofs.worked.faults_of_names.Goals as goal

pub returns : goal.returns
unfolding outcome_of first_fault line_fault words_fault item_fault is_key exactly name_at is_name number_at kind_at line_of size_of_words max_of_words object_of_words nameless_of_words named_of_words object_name_at is_object_name end_of_words command_of begin_command_of call_command_of commit_command_of abort_command_of rollback_command_of
returns c = record { no_size = refl; no_name = refl; two_names = refl; name_before_number = refl; leading_zero = refl; twice = refl; later = refl; range_before_twice = refl }
