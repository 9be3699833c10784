use Rattle.std.proofs.Common.{refl}
use Rattle.equi_cert.specs.Relation.{relates}
use Rattle.equi_cert.proofs.Faults.{faultless-simulates}
use Rattle.equi_cert.proofs.simulation.check_simulation.Goals as goal

pub returns-in-None-clause-exact : goal.returns-in-None-clause-exact
returns-in-None-clause-exact c = (λ ok. faultless-simulates c.args.table.now (relates c.args.relation.now) c.in-None.ensures, λ simulates. refl)
