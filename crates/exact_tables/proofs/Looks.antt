-- Looks-like is the greatest simulation, since an operation has at most one next state.
use Rattle.std.proofs.Common.{◌≡◌, ℕ, [], ◌∷◌, Some, inr}
use Rattle.equi_cert.specs.Laws.{SimulationLooks}
use Rattle.type_table.specs.Table.{Table, next}
use Rattle.type_table.specs.Run.{Looks}
use Rattle.type_table.specs.Laws.{StepsWithin}
use Rattle.type_table.proofs.Legal.{some_state, is_there, legal_here, legal_there}
use Rattle.exact_tables.specs.Laws.{ExactSimulates, ExactIsGreatest}

-- what looks like another looks like it after an operation
pub looks-step : (T : Table) (s t k s2 : ℕ) → Looks T (Some s) (Some t) → next T s k ≡ Some s2 → (t2 : ℕ) × (next T t k ≡ Some t2) × Looks T (Some s2) (Some t2)
looks-step T s t k s2 looks step =
    let there = some_state (next T t k) (looks (k ∷ []) (is_there (next T s k) s2 step)) in
    (there.0, there.1, λ w legal. legal_there T (next T t k) there.0 w there.1 (looks (k ∷ w) (legal_here T (next T s k) s2 w step legal)))

pub exact-simulates : StepsWithin → ExactSimulates
exact-simulates within = λ T related table exact s t k s2 pair step.
    let after = looks-step T s t k s2 ((exact s t).0 pair).2 step in
    (after.0, after.1, inr ((exact s2 after.0).1 ((within T s k s2 table step).2, (within T t k after.0 table after.1).2, after.2)))

pub exact-is_greatest : SimulationLooks → ExactIsGreatest
exact-is_greatest looks = λ T related other s t exact simulation s_in t_in pair. (exact s t).1 (s_in, t_in, looks T other s t simulation pair)
