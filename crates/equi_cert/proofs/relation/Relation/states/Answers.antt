use Rattle.std.proofs.Common.{sym}
use Rattle.equi_cert.proofs.Cells.{states_shown}
use Rattle.equi_cert.proofs.relation.Relation.states.Goals as goal

pub returns-clause-exact : goal.returns-clause-exact
returns-clause-exact c = sym (states_shown c.self.inside.states c.self.inside.words.items c.args.self.now c.self.view_is)
