-- The small types of the worked examples.
use Rattle.std.proofs.Common.{◌≡◌, ℕ, zero, suc, ◌<◌, true, false, [], ◌∷◌, length, Some, None, IsSome, is_some, refl, sym, ap, ◌∙◌, inl, inr, arith, below_none, below_more}
use Rattle.std.proofs.lemmas.Bool.{false≢true, true≢false, ltb-true, le-ltb, cases_lt}
use Rattle.type_table.specs.Table.{Table, next}
use Rattle.type_table.specs.Run.{run, Looks}
use Rattle.type_table.specs.ConflictTable.{conflicts}
use Rattle.type_table.specs.Commute.{CommuteForward}
use Rattle.type_table.specs.Examples.{counter_table, three_states, forward_pairs, one_way, five_states}
use Rattle.type_table.proofs.Legal.{run_from_none}

-- a legal operation is one of the table's
pub legal_inside : (T : Table) (s k : ℕ) → IsSome (next T s k) → k < length T.ops
unfolding next
legal_inside T s k legal =
    elim (cases_lt k (length T.ops)) [
      | inl below ↦ below
      | inr above ↦ absurd (false≢true (rw (le-ltb k (length T.ops) above) at legal))
    ]

-- what holds at each of three states
pub at_three : (P : ℕ → Type 0) → P 0 → P 1 → P 2 → (s : ℕ) → three_states s ≡ true → P s
at_three P zeroth first second s inside =
    below_more P 2 (below_more P 1 (below_more P 0 (below_none P) zeroth) first) second s (ltb-true s 3 inside)

pub at_five : (P : ℕ → Type 0) → P 0 → P 1 → P 2 → P 3 → P 4 → (s : ℕ) → five_states s ≡ true → P s
at_five P zeroth first second third fourth s inside =
    below_more P 4 (below_more P 3 (below_more P 2 (below_more P 1 (below_more P 0 (below_none P) zeroth) first) second) third) fourth s (ltb-true s 5 inside)

-- ---- the counter

up_down : CommuteForward counter_table three_states 0 1
unfolding next
up_down = at_three _
    (λ _ legal. absurd (false≢true legal))
    (λ _ _. (refl, refl, (λ _ legal. legal, λ _ legal. legal)))
    (λ legal _. absurd (false≢true legal))

down_up : CommuteForward counter_table three_states 1 0
unfolding next
down_up = at_three _
    (λ legal _. absurd (false≢true legal))
    (λ _ _. (refl, refl, (λ _ legal. legal, λ _ legal. legal)))
    (λ _ legal. absurd (false≢true legal))

pub counter-forward : (p q : ℕ) → conflicts forward_pairs p q ≡ false → CommuteForward counter_table three_states p q
counter-forward zero zero apart = absurd (true≢false apart)
counter-forward zero (suc zero) apart = up_down
counter-forward zero (suc (suc q)) apart = λ s _ _ legal. absurd (omega (arith, legal_inside counter_table s (suc (suc q)) legal))
counter-forward (suc zero) zero apart = down_up
counter-forward (suc zero) (suc zero) apart = absurd (true≢false apart)
counter-forward (suc zero) (suc (suc q)) apart = λ s _ _ legal. absurd (omega (arith, legal_inside counter_table s (suc (suc q)) legal))
counter-forward (suc (suc p)) q apart = λ s _ legal _. absurd (omega (arith, legal_inside counter_table s (suc (suc p)) legal))

-- ---- the one-way type

stuck_three : (k : ℕ) → next one_way 3 k ≡ None
unfolding next
stuck_three zero = refl
stuck_three (suc zero) = refl
stuck_three (suc (suc zero)) = refl
stuck_three (suc (suc (suc k))) = rw (le-ltb (suc (suc (suc k))) 3 (omega arith)) refl

-- state 3 looks like each state
pub three_looks : (from : ℕ) → Looks one_way (Some 3) (Some from)
three_looks from [] legal = refl
three_looks from (k ∷ ks) legal =
    absurd (false≢true (sym (ap is_some (ap (λ o. run one_way o ks) (stuck_three k) ∙ run_from_none one_way ks)) ∙ legal))
