use Rattle.store_laws.proofs.Events.{end_moves}
use Rattle.store_laws.proofs.laws.end_moves.Goals as goal

-- what an end changes
pub returns : goal.returns
returns c = end_moves c.untouched_stays.ensures c.logs_are_counted.ensures
