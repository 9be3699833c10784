use Rattle.line_text.proofs.Skipping.{are_skipped}
use Rattle.line_text.proofs.laws.comments_are_skipped.Goals as goal

pub returns : goal.returns
returns g c = λ rules lines. are_skipped rules lines
