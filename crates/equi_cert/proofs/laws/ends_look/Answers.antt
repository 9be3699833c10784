use Rattle.equi_cert.proofs.Steps.{ends-look}
use Rattle.equi_cert.proofs.laws.ends_look.Goals as goal

pub returns : goal.returns
returns c = ends-look
