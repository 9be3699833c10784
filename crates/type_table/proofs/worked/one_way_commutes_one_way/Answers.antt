use Rattle.std.proofs.Common.{[], ◌∷◌, refl}
use Rattle.std.proofs.lemmas.Bool.{false≢true}
use Rattle.type_table.specs.Table.{next}
use Rattle.type_table.proofs.Examples.{at_five, three_looks}
use Rattle.type_table.proofs.worked.one_way_commutes_one_way.Goals as goal

-- q and then p is legal at state 0 alone
pub returns-clause-one : goal.returns-clause-one
unfolding next
returns-clause-one c = at_five _ (λ _. (refl, three_looks 4)) (λ legal. absurd (false≢true legal)) (λ legal. absurd (false≢true legal)) (λ legal. absurd (false≢true legal)) (λ legal. absurd (false≢true legal))

-- r is legal at state 4, and not at state 3
pub returns-clause-both : goal.returns-clause-both
unfolding next
returns-clause-both c = λ h. false≢true ((h 0 refl refl).1.1 (2 ∷ []) refl)
