use Rattle.carried_runs.proofs.Showing.{carried_fits}
use Rattle.carried_runs.proofs.laws.carried_fits.Goals as goal

pub returns : goal.returns
returns c = carried_fits
