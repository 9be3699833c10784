use Rattle.line_text.proofs.Spelled.{IsReadAgain-always}
use Rattle.line_text.proofs.laws.canonical_reads_again.Goals as goal

pub returns : goal.returns
returns g c = λ rules words items. IsReadAgain-always rules words items
