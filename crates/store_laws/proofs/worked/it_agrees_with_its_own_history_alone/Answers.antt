use Rattle.std.proofs.Common.{◌≡◌, ℕ, List, [], ◌∷◌, Some, refl}
use Rattle.std.proofs.lemmas.Bool.{true≢false}
use Rattle.store_laws.specs.Examples.{by_seven}
use Rattle.store_laws.proofs.worked.it_agrees_with_its_own_history_alone.Goals as goal

-- the transaction did nothing yet
pub returns-clause-early : goal.returns-clause-early
returns-clause-early c = λ kept.
    let places : ◌≡◌ {A = List ℕ} (1 ∷ []) [] = (kept.transactions 0 (Some (by_seven (1 ∷ []))) refl).places (by_seven (1 ∷ [])) refl in
    cc

-- it isn't open any more
pub returns-clause-late : goal.returns-clause-late
returns-clause-late c = λ kept. true≢false (kept.transactions 0 (Some (by_seven (1 ∷ []))) refl).going
