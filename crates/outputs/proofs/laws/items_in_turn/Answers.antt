use Rattle.outputs.proofs.Puts.{items-stop}
use Rattle.outputs.proofs.laws.items_in_turn.Goals as goal

pub returns : goal.returns
returns g c = items-stop
