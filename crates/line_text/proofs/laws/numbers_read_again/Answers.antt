use Rattle.line_text.proofs.Decimals.{NumberIsReadAgain-always}
use Rattle.line_text.proofs.laws.numbers_read_again.Goals as goal

pub returns : goal.returns
returns c = λ n below. NumberIsReadAgain-always n below
