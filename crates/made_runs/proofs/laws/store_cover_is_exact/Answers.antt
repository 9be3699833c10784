use Rattle.made_runs.proofs.Exact.{store_cover_is_exact}
use Rattle.made_runs.proofs.laws.store_cover_is_exact.Goals as goal

pub returns : goal.returns
returns c = store_cover_is_exact c.replay_runs.ensures c.runs_are_made.ensures c.covered_is_atomic.ensures c.breaks_are_enough.ensures
