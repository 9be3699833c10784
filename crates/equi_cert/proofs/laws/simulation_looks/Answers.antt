use Rattle.equi_cert.proofs.Steps.{simulation-looks}
use Rattle.equi_cert.proofs.laws.simulation_looks.Goals as goal

pub returns : goal.returns
returns c = simulation-looks
