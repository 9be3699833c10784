-- A simulation that has each pair of each simulation is exact. Since it is a test, and a proof by contradiction is enough,
-- no test of looks-like has to be made: it can't be that there is none at the finitely many pairs of states.
use Rattle.std.proofs.Common.{◌≡◌, ◌↔◌, ◌⊎◌, ℕ, zero, suc, ◌<◌, ◌≤◌, Bool, true, false, Some, refl, sym, ◌∙◌, inl, inr, arith, below_none, below_more}
use Rattle.std.proofs.lemmas.Bool.{false≢true, cases_lt, true_from_ne_false}
use Rattle.equi_cert.specs.Simulation.{IsSimulation}
use Rattle.equi_cert.specs.Laws.{SimulationLooks}
use Rattle.type_table.specs.Table.{Table, IsTable}
use Rattle.type_table.specs.Run.{Looks}
use Rattle.type_table.specs.Laws.{StepsWithin}
use Rattle.exact_tables.specs.Laws.{GreatestIsExact}
use Rattle.exact_tables.proofs.Looks.{looks-step}

-- a test of a statement
abbrev Tested : Type 0 → Type 0
Tested P = (b : Bool) × ((b ≡ true) ↔ P)

-- it can't be that there is none
not-untested : (P : Type 0) → (Tested P → ⊥) → ⊥
not-untested P none = none (false, (λ e. absurd (false≢true e), λ p. absurd (none (true, (λ e. p, λ q. refl)))))

-- nor that something is missing at a number below n, if it can't be missing at any
not-missing_below : (P : ℕ → Type 0) (n : ℕ) → ((i : ℕ) → i < n → (P i → ⊥) → ⊥) → (((i : ℕ) → i < n → P i) → ⊥) → ⊥
not-missing_below P zero each none = none (below_none P)
not-missing_below P (suc n) each none =
    not-missing_below P n (λ i below. each i (omega (arith, below))) (λ all.
    each n (omega arith) (λ here. none (λ i below. below_more P n all here i (omega (arith, below)))))

-- tests of looks-like at all pairs of states
abbrev Tests : Table → Type 0
Tests T = (a : ℕ) → a < T.states → (b : ℕ) → b < T.states → Tested (Looks T (Some a) (Some b))

-- the relation of these tests, false outside
pick : (T : Table) → Tests T → (a b : ℕ) → (a < T.states) ⊎ (T.states ≤ a) → (b < T.states) ⊎ (T.states ≤ b) → Bool
pick T tests a b (inl a_in) (inl b_in) = (tests a a_in b b_in).0
pick T tests a b (inl a_in) (inr b_out) = false
pick T tests a b (inr a_out) second = false

abbrev by_tests : (T : Table) → Tests T → ℕ → ℕ → Bool
by_tests T tests a b = pick T tests a b (cases_lt a T.states) (cases_lt b T.states)

pick-looks : (T : Table) (tests : Tests T) (a b : ℕ) (first : (a < T.states) ⊎ (T.states ≤ a)) (second : (b < T.states) ⊎ (T.states ≤ b)) → pick T tests a b first second ≡ true → Looks T (Some a) (Some b)
unfolding pick
pick-looks T tests a b (inl a_in) (inl b_in) h = ((tests a a_in b b_in).1).0 h
pick-looks T tests a b (inl a_in) (inr b_out) h = absurd (false≢true h)
pick-looks T tests a b (inr a_out) second h = absurd (false≢true h)

looks-pick : (T : Table) (tests : Tests T) (a b : ℕ) (first : (a < T.states) ⊎ (T.states ≤ a)) (second : (b < T.states) ⊎ (T.states ≤ b)) →
    a < T.states → b < T.states → Looks T (Some a) (Some b) → pick T tests a b first second ≡ true
unfolding pick
looks-pick T tests a b (inl a_in) (inl b_in) a_is b_is looks = ((tests a a_in b b_in).1).1 looks
looks-pick T tests a b (inl a_in) (inr b_out) a_is b_is looks = absurd (omega (arith, b_is, b_out))
looks-pick T tests a b (inr a_out) second a_is b_is looks = absurd (omega (arith, a_is, a_out))

-- it is a simulation
tests-simulate : StepsWithin → (T : Table) (tests : Tests T) → IsTable T → IsSimulation T (by_tests T tests)
tests-simulate within T tests table = λ s t k s2 pair step.
    let after = looks-step T s t k s2 (pick-looks T tests s t (cases_lt s T.states) (cases_lt t T.states) pair) step in
    (after.0, after.1, inr (looks-pick T tests s2 after.0 (cases_lt s2 T.states) (cases_lt after.0 T.states) (within T s k s2 table step).2 (within T t k after.0 table after.1).2 after.2))

pub greatest-is_exact : StepsWithin → SimulationLooks → GreatestIsExact
greatest-is_exact within looks = λ T related table simulation inside greatest s t. (
  λ pair. ((inside s t pair).0, (inside s t pair).1, looks T related s t simulation pair),
  λ like. true_from_ne_false (related s t) (λ apart.
      not-missing_below (λ a. (b : ℕ) → b < T.states → Tested (Looks T (Some a) (Some b))) T.states
      (λ a a_in. not-missing_below (λ b. Tested (Looks T (Some a) (Some b))) T.states (λ b b_in. not-untested (Looks T (Some a) (Some b))))
      (λ tests.
      let pair = looks-pick T tests s t (cases_lt s T.states) (cases_lt t T.states) like.0 like.1 like.2 in
      false≢true (sym apart ∙ greatest (by_tests T tests) s t (tests-simulate within T tests table) like.0 like.1 pair))),
)
