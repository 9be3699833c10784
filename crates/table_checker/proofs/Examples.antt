-- The counter of the worked examples.
use Rattle.std.proofs.Common.{◌≡◌, ℕ, zero, suc, ◌<◌, Bool, true, false, List, refl, inl, arith, below_none, below_more}
use Rattle.std.proofs.lemmas.Bool.{false≢true, agree_below, agree_below_at}
use Rattle.equi_cert.specs.Relation.{relates}
use Rattle.equi_cert.specs.Simulation.{IsSimulation}
use Rattle.type_table.specs.Table.{next, IsTable}
use Rattle.type_table.specs.Examples.{counter_table, forward_pairs}
use Rattle.type_table.specs.declared.kind.Kind.TheVariants.{Intentions}
use Rattle.declared_types.specs.declared.type_file.TypeFile.{TypeFile}
use Rattle.table_checker.specs.Condition.{passes_forward, fails_in_set, PassesEverywhere, IsFirstFailure}
use Rattle.table_checker.specs.Reach.{leaves_at, NeverLeaves}
use Rattle.table_checker.specs.Scan.{pair_fails, NoneBelow}
use Rattle.table_checker.specs.Checked.{Checked, IsChecked, IsCertified}
use Rattle.table_checker.specs.Examples.{counter_file, ups_alone}
use Rattle.table_checker.specs.declared.condition.Condition.{Condition}
use Rattle.table_checker.specs.declared.condition.Condition.TheVariants.{Forward}
use Rattle.table_checker.proofs.Found.{none-passes, first-of_number}

-- ---- pairs

-- the pairs of the numbers below n pass: a test that computes
abbrev is_quiet : Condition → TypeFile → List (List Bool) → ℕ → Bool
is_quiet condition file rows n = agree_below (pair_fails condition file rows) (λ _. false) n

-- and what that means
quiet_below : (condition : Condition) (file : TypeFile) (rows : List (List Bool)) (n : ℕ) → is_quiet condition file rows n ≡ true → NoneBelow (pair_fails condition file rows) n
quiet_below condition file rows n quiet i below = agree_below_at (pair_fails condition file rows) (λ _. false) n i quiet below

-- with its two pairs of equal operations, the counter passes
pub counter-passes : PassesEverywhere Forward counter_file forward_pairs
unfolding passes_forward next pair_fails
counter-passes = none-passes Forward counter_file forward_pairs (quiet_below Forward counter_file forward_pairs 4 refl)

-- without the pair of two downs, it fails at them first
pub downs-fail_first : IsFirstFailure Forward counter_file ups_alone 1 1 1
unfolding passes_forward next pair_fails
downs-fail_first = first-of_number Forward counter_file ups_alone 3 4 1 1 1 refl refl (omega arith) (omega arith)
    (record { below = omega arith; passes = refl; first = quiet_below Forward counter_file ups_alone 3 refl })
    (record { state = omega arith; fails = refl; first = λ r below. agree_below_at (fails_in_set Forward counter_file 1 1) (λ _. false) 1 r refl below })

-- ---- the counter's file, as the checker accepts it

-- what holds at each of two numbers
pub at_two : (P : ℕ → Type 0) → P 0 → P 1 → (k : ℕ) → k < 2 → P k
at_two P zeroth first = below_more P 1 (below_more P 0 (below_none P) zeroth) first

-- and at each of three
pub at_three : (P : ℕ → Type 0) → P 0 → P 1 → P 2 → (s : ℕ) → s < 3 → P s
at_three P zeroth first second = below_more P 2 (at_two P zeroth first) second

-- no step leaves the set of all states
counter-stays : NeverLeaves counter_table counter_file.reach
unfolding next
counter-stays s k s_in k_in =
    at_two (λ c. leaves_at counter_table counter_file.reach s c ≡ false)
    (at_three (λ r. leaves_at counter_table counter_file.reach r 0 ≡ false) refl refl refl s s_in)
    (at_three (λ r. leaves_at counter_table counter_file.reach r 1 ≡ false) refl refl refl s s_in)
    k k_in

-- each state is related to itself alone
diagonal : (s t : ℕ) → relates counter_file.relation s t ≡ true → s ≡ t
diagonal zero zero h = refl
diagonal zero (suc zero) h = absurd (false≢true h)
diagonal zero (suc (suc zero)) h = absurd (false≢true h)
diagonal zero (suc (suc (suc t))) h = absurd (false≢true h)
diagonal (suc zero) zero h = absurd (false≢true h)
diagonal (suc zero) (suc zero) h = refl
diagonal (suc zero) (suc (suc zero)) h = absurd (false≢true h)
diagonal (suc zero) (suc (suc (suc t))) h = absurd (false≢true h)
diagonal (suc (suc zero)) zero h = absurd (false≢true h)
diagonal (suc (suc zero)) (suc zero) h = absurd (false≢true h)
diagonal (suc (suc zero)) (suc (suc zero)) h = refl
diagonal (suc (suc zero)) (suc (suc (suc t))) h = absurd (false≢true h)
diagonal (suc (suc (suc s))) t h = absurd (false≢true h)

-- and so the relation is a simulation
counter-simulates : IsSimulation counter_table (relates counter_file.relation)
counter-simulates s t k s2 pair step = (s2, rw (← diagonal s t pair) step, inl refl)

-- the counter is a table
pub counter-table : IsTable counter_table
counter-table = record {
  some_states = omega arith;
  states_fit = omega arith;
  some_ops = omega arith;
  ops_fit = omega arith;
  whole = refl;
  initial_inside = omega arith;
  steps_inside = refl;
  no_twin = refl;
}

-- its set and its relation are in order
pub counter-certified : IsCertified counter_file
counter-certified = record { begins_inside = refl; never_leaves = counter-stays; simulation = counter-simulates }

-- the counter, accepted for deferred update
abbrev pub accepted_counter : Checked
accepted_counter = record { kind = Intentions; file = counter_file }

-- it is what the checker accepts
pub counter-checked : IsChecked accepted_counter
counter-checked = record { table = counter-table; certified = counter-certified; passes = counter-passes }
