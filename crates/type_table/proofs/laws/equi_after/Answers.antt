use Rattle.type_table.proofs.Runs.{AreEqui-run}
use Rattle.type_table.proofs.laws.equi_after.Goals as goal

pub returns : goal.returns
returns c = λ T a b w h legal. (h.0 w legal, AreEqui-run T a b w h)
