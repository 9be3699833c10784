use Rattle.line_text.proofs.Decimals.{NameIsWord-always}
use Rattle.line_text.proofs.laws.names_are_words.Goals as goal

pub returns : goal.returns
returns c = λ w. NameIsWord-always w
