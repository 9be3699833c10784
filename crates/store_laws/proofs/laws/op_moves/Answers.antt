use Rattle.store_laws.proofs.Events.{op_moves}
use Rattle.store_laws.proofs.laws.op_moves.Goals as goal

-- what an operation changes
pub returns : goal.returns
returns c = op_moves
