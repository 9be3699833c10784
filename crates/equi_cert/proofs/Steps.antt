-- A pair of a simulation looks, over all lists of operations.
use Rattle.std.proofs.Common.{◌≡◌, ℕ, Bool, true, List, [], ◌∷◌, Option, Some, None, refl, inl, inr}
use Rattle.std.proofs.lemmas.Bool.{false≢true}
use Rattle.type_table.specs.Table.{Table, next}
use Rattle.type_table.specs.Run.{IsLegal}
use Rattle.equi_cert.specs.Simulation.{IsSimulation}
use Rattle.equi_cert.specs.Laws.{SimulationLooks, EndsLook}

-- nothing is legal where there is no state
nothing_after_none : (T : Table) (ks : List ℕ) → IsLegal T None ks → (R : Type 0) → R
nothing_after_none T [] h R = absurd (false≢true h)
nothing_after_none T (k ∷ ks) h R = nothing_after_none T ks h R

-- one step of a pair, and then a list for which the law holds
one_step : (T : Table) (related : ℕ → ℕ → Bool) (s t k : ℕ) (ks : List ℕ) → IsSimulation T related → related s t ≡ true
    → ((a b : ℕ) → related a b ≡ true → IsLegal T (Some a) ks → IsLegal T (Some b) ks)
    → (after_s : Option ℕ) → next T s k ≡ after_s → IsLegal T after_s ks → IsLegal T (next T t k) ks
one_step T related s t k ks sim pair rest None e h = nothing_after_none T ks h (IsLegal T (next T t k) ks)
one_step T related s t k ks sim pair rest (Some s2) e h =
    let to = sim s t k s2 pair e in
    rw to.1 (elim to.2 [ inl same ↦ rw (← same) h | inr next_pair ↦ rest s2 to.0 next_pair h ])

-- along the list, the two states stay equal or a pair
pub simulation-looks : SimulationLooks
simulation-looks T related s t sim pair [] h = refl
simulation-looks T related s t sim pair (k ∷ ks) h =
    one_step T related s t k ks sim pair (λ a b next_pair. simulation-looks T related a b sim next_pair ks) (next T s k) refl h

pub ends-look : EndsLook
ends-look T related s a b v w sim first second pair = rw (first, second) (simulation-looks T related a b sim pair)
