use Rattle.std.proofs.Common.{[], ◌∷◌, refl}
use Rattle.std.proofs.lemmas.Bool.{false≢true}
use Rattle.type_table.specs.Table.{next}
use Rattle.type_table.proofs.Examples.{three_looks}
use Rattle.type_table.proofs.worked.one_way_looks_one_way.Goals as goal

pub returns-clause-looks : goal.returns-clause-looks
returns-clause-looks c = three_looks 4

-- r is legal at state 4, and not at state 3
pub returns-clause-back : goal.returns-clause-back
unfolding next
returns-clause-back c = λ h. false≢true (h (2 ∷ []) refl)
