use Rattle.made_runs.proofs.YesExact.{store_yes_is_exact}
use Rattle.made_runs.proofs.laws.store_yes_is_exact.Goals as goal

pub returns : goal.returns
returns c = store_yes_is_exact c.replay_runs.ensures c.steps_within.ensures c.cover_is_exact.ensures c.yes_is_exact.ensures c.store_cover_is_exact.ensures
