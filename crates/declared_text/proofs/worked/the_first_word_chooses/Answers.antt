use Rattle.std.proofs.Common.{refl}
use Rattle.line_text.specs.Shapes.{is_key}
use Rattle.declared_text.proofs.worked.the_first_word_chooses.Goals as goal

pub returns : goal.returns
unfolding is_key
returns c = record { after_a_comment = refl; in_a_comment = refl; second_word = refl; longer_word = refl; no_word = refl; no_byte = refl }
