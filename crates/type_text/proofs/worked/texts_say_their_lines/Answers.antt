use Rattle.std.proofs.Common.{refl}
use Rattle.type_table.specs.Name.{is_name}
use Rattle.line_text.specs.Shapes.{is_key, exactly, name_at, number_at, table_kind_at}
use Rattle.line_text.specs.LineTests.{line_fault, words_fault, item_fault}
use Rattle.line_text.specs.Outcome.{outcome_of, first_fault}
use Rattle.type_text.specs.TypeLines.{line_of, type_name_of, states_of_words, initial_of_words, operation_of, step_of, conflict_of, end_of}
use Rattle.type_text.proofs.worked.texts_say_their_lines.Goals as goal

pub returns : goal.returns
unfolding outcome_of first_fault line_fault words_fault item_fault is_key exactly name_at is_name number_at table_kind_at line_of type_name_of states_of_words initial_of_words operation_of step_of conflict_of end_of
returns c = record { counter = refl; spaced = refl }
