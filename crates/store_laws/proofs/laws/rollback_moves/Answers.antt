use Rattle.store_laws.proofs.Events.{rollback_moves}
use Rattle.store_laws.proofs.laws.rollback_moves.Goals as goal

-- what a rollback changes
pub returns : goal.returns
returns c = rollback_moves
