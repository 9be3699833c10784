use Rattle.std.proofs.Common.{refl}
use Rattle.type_table.specs.Name.{is_name}
use Rattle.line_text.specs.Shapes.{is_key, exactly, name_at}
use Rattle.line_text.specs.LineTests.{line_fault, words_fault, item_fault}
use Rattle.line_text.specs.Outcome.{outcome_of, first_fault}
use Rattle.line_text.specs.LongNumbers.{long_number_at}
use Rattle.number_text.specs.NumberLines.{line_of, called_of, numbered_of, says_any, any_or_numbered, bare_of}
use Rattle.number_text.proofs.worked.texts_say_their_lines.Goals as goal

pub returns : goal.returns
unfolding outcome_of first_fault line_fault words_fault item_fault is_key exactly name_at is_name long_number_at line_of called_of numbered_of says_any any_or_numbered bare_of
returns c = record { credit = refl; canonical = refl; spaced = refl }
