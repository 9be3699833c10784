use Rattle.store_laws.proofs.Asked.{step-is-asked}
use Rattle.store_laws.proofs.laws.step_is_asked.Goals as goal

pub returns : goal.returns
returns g c = step-is-asked
