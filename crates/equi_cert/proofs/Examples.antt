-- Tests of all triples of a small type, which compute.
use Rattle.std.proofs.Common.{◌≡◌, ℕ, ◌<◌, Bool, true, false, List, length, inl, inr}
use Rattle.std.proofs.lemmas.Bool.{cases_lt, and_left, and_right, agree_below, agree_below_at}
use Rattle.type_table.specs.Table.{Table}
use Rattle.type_table.specs.ConflictTable.{IsSquare}
use Rattle.equi_cert.specs.Relation.{relates, rows_by}
use Rattle.equi_cert.specs.Simulation.{IsSimulation}
use Rattle.equi_cert.specs.Fault.{is_fault, IsFirstFault}
use Rattle.equi_cert.specs.Examples.{is_pair_among, related_by}
use Rattle.equi_cert.proofs.Rows.{square-rows_by, relates-past_first, relates-past_second}
use Rattle.equi_cert.proofs.Faults.{past_passes, faultless-simulates}

-- no operation before this one is a fault of the pair
abbrev pub is_quiet_pair : Table → (ℕ → ℕ → Bool) → ℕ → ℕ → ℕ → Bool
is_quiet_pair T related s t n = agree_below (is_fault T related s t) (λ _. false) n

-- no second state before this one has a fault with the first
abbrev pub is_quiet_row : Table → (ℕ → ℕ → Bool) → ℕ → ℕ → Bool
is_quiet_row T related s n = agree_below (λ t. is_quiet_pair T related s t (length T.ops)) (λ _. true) n

-- no first state before this one has a fault
abbrev pub is_quiet : Table → (ℕ → ℕ → Bool) → ℕ → Bool
is_quiet T related n = agree_below (λ s. is_quiet_row T related s T.states) (λ _. true) n

quiet-pair : (T : Table) (related : ℕ → ℕ → Bool) (s t k : ℕ) → is_quiet_pair T related s t (length T.ops) ≡ true → is_fault T related s t k ≡ false
quiet-pair T related s t k quiet =
    elim (cases_lt k (length T.ops)) [
      | inl below ↦ agree_below_at (is_fault T related s t) (λ _. false) (length T.ops) k quiet below
      | inr past ↦ and_right (related s t) _ (past_passes T related s t k past)
    ]

quiet-row_before : (T : Table) (related : ℕ → ℕ → Bool) (s n t k : ℕ) → is_quiet_row T related s n ≡ true → t < n → is_fault T related s t k ≡ false
quiet-row_before T related s n t k quiet below =
    quiet-pair T related s t k (agree_below_at (λ b. is_quiet_pair T related s b (length T.ops)) (λ _. true) n t quiet below)

quiet-row : (T : Table) (rows : List (List Bool)) (s t k : ℕ) → IsSquare T.states rows → is_quiet_row T (relates rows) s T.states ≡ true → is_fault T (relates rows) s t k ≡ false
quiet-row T rows s t k square quiet =
    elim (cases_lt t T.states) [
      | inl below ↦ quiet-row_before T (relates rows) s T.states t k quiet below
      | inr past ↦ and_left (relates rows s t) _ (relates-past_second T.states s t rows square past)
    ]

quiet-before : (T : Table) (rows : List (List Bool)) (n s t k : ℕ) → IsSquare T.states rows → is_quiet T (relates rows) n ≡ true → s < n → is_fault T (relates rows) s t k ≡ false
quiet-before T rows n s t k square quiet below =
    quiet-row T rows s t k square (agree_below_at (λ a. is_quiet_row T (relates rows) a T.states) (λ _. true) n s quiet below)

-- no triple is a fault
pub simulates : (T : Table) (pairs : List (ℕ × ℕ)) → is_quiet T (related_by T.states pairs) T.states ≡ true → IsSimulation T (related_by T.states pairs)
simulates T pairs quiet = faultless-simulates T (related_by T.states pairs) (λ s t k.
    let square = square-rows_by T.states (is_pair_among pairs) in
    elim (cases_lt s T.states) [
      | inl below ↦ quiet-before T (rows_by T.states (is_pair_among pairs)) T.states s t k square quiet below
      | inr past ↦ and_left (related_by T.states pairs s t) _ (relates-past_first T.states s t (rows_by T.states (is_pair_among pairs)) square past)
    ])

-- a triple is the first fault
pub first-fault : (T : Table) (pairs : List (ℕ × ℕ)) (s t k : ℕ) → s < T.states → t < T.states → k < length T.ops → is_fault T (related_by T.states pairs) s t k ≡ true →
    is_quiet T (related_by T.states pairs) s ≡ true → is_quiet_row T (related_by T.states pairs) s t ≡ true → is_quiet_pair T (related_by T.states pairs) s t k ≡ true →
    IsFirstFault T (related_by T.states pairs) s t k
first-fault T pairs s t k s_in t_in k_in fails firsts seconds operations = record {
  first = s_in;
  second = t_in;
  operation = k_in;
  fails = fails;
  least_first = λ a b c below. quiet-before T (rows_by T.states (is_pair_among pairs)) s a b c (square-rows_by T.states (is_pair_among pairs)) firsts below;
  least_second = λ b c below. quiet-row_before T (related_by T.states pairs) s t b c seconds below;
  least_operation = λ c below. agree_below_at (is_fault T (related_by T.states pairs) s t) (λ _. false) k c operations below;
}
