use Rattle.line_text.proofs.Places.{IsOutcome-always}
use Rattle.line_text.proofs.laws.outcome_by_lines.Goals as goal

pub returns : goal.returns
returns g c = λ rules text. IsOutcome-always rules text
