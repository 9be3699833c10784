use Rattle.type_table.proofs.Runs.{Looks-run}
use Rattle.type_table.proofs.laws.looks_after.Goals as goal

pub returns : goal.returns
returns c = λ T a b w h legal. (h w legal, Looks-run T a b w h)
