use Rattle.vote_laws.proofs.Decisions.{decision_is_kept}
use Rattle.vote_laws.proofs.laws.decisions_are_kept.Goals as goal

pub returns : goal.returns
returns c = decision_is_kept
