-- The counter of two.
use Rattle.std.proofs.Common.{◌≡◌, ◌↔◌, ℕ, ◌<◌, ◌≤◌, below_none, below_more, Bool, true, false, List, [], ◌∷◌, length, refl, sym, ◌∙◌, arith}
use Rattle.std.proofs.lemmas.Bool.{false≢true}
use Rattle.std.proofs.lemmas.Fmt.{decimal_digit}
use Rattle.type_table.specs.ConflictTable.{conflict_row, conflicts, IsSquare}
use Rattle.type_table.specs.Examples.{backward_pairs, counter_table, forward_pairs}
use Rattle.type_table.specs.Table.{next}
use Rattle.table_checker.specs.Condition.{fails_in_set, passes_backward, passes_forward}
use Rattle.table_checker.specs.Examples.{counter_file}
use Rattle.table_checker.specs.declared.condition.Condition.{Condition}
use Rattle.table_checker.specs.declared.condition.Condition.TheVariants.{Backward, Forward}
use Rattle.table_checker.proofs.Examples.{at_three, at_two, counter-table}
use Rattle.exact_tables.proofs.Examples.{counter-exact}
use Rattle.table_maker.specs.Made.{IsFileOfFamily, IsTableOfFamily}
use Rattle.table_maker.specs.MadeConflicts.{AreMadeConflicts, FailsSomewhere}
use Rattle.table_families.specs.Amounts.{AreAmounts, amount_at}
use Rattle.table_families.specs.Counter.{counter}

-- ---- its conflict tables

-- a pair that fails at one of three states
fails_at_one : (condition : Condition) (rows : List (List Bool)) (p q s : ℕ) → s < 3 → conflicts rows p q ≡ true → fails_in_set condition counter_file p q s ≡ true
    → (conflicts rows p q ≡ true) ↔ FailsSomewhere condition counter_file p q
fails_at_one condition rows p q s s_in conflict fails = (λ h. (s, s_in, fails), λ h. conflict)

-- and one that fails at none of them
fails_at_none : (condition : Condition) (rows : List (List Bool)) (p q : ℕ) → conflicts rows p q ≡ false
    → fails_in_set condition counter_file p q 0 ≡ false → fails_in_set condition counter_file p q 1 ≡ false → fails_in_set condition counter_file p q 2 ≡ false
    → (conflicts rows p q ≡ true) ↔ FailsSomewhere condition counter_file p q
fails_at_none condition rows p q free zeroth first second = (
  λ h. absurd (false≢true (sym free ∙ h)),
  λ h. absurd (false≢true (sym (at_three (λ s. fails_in_set condition counter_file p q s ≡ false) zeroth first second h.0 h.1) ∙ h.2)),
)

-- two rows of two cells
square : (rows : List (List Bool)) → length rows ≡ 2 → length (conflict_row rows 0) ≡ 2 → length (conflict_row rows 1) ≡ 2 → IsSquare 2 rows
square rows high first second = record { height = high; width = at_two (λ p. length (conflict_row rows p) ≡ 2) first second }

undo_is_made : AreMadeConflicts Backward counter_file backward_pairs
unfolding next passes_backward
undo_is_made = record {
  square = square backward_pairs refl refl refl;
  exact = λ p q p_in q_in.
      at_two (λ a. (conflicts backward_pairs a q ≡ true) ↔ FailsSomewhere Backward counter_file a q)
      (at_two (λ b. (conflicts backward_pairs 0 b ≡ true) ↔ FailsSomewhere Backward counter_file 0 b)
      (fails_at_none Backward backward_pairs 0 0 refl refl refl refl) (fails_at_one Backward backward_pairs 0 1 2 (omega arith) refl refl) q q_in)
      (at_two (λ b. (conflicts backward_pairs 1 b ≡ true) ↔ FailsSomewhere Backward counter_file 1 b)
      (fails_at_one Backward backward_pairs 1 0 0 (omega arith) refl refl) (fails_at_none Backward backward_pairs 1 1 refl refl refl refl) q q_in)
      p p_in;
}

intentions_are_made : AreMadeConflicts Forward counter_file forward_pairs
unfolding next passes_forward
intentions_are_made = record {
  square = square forward_pairs refl refl refl;
  exact = λ p q p_in q_in.
      at_two (λ a. (conflicts forward_pairs a q ≡ true) ↔ FailsSomewhere Forward counter_file a q)
      (at_two (λ b. (conflicts forward_pairs 0 b ≡ true) ↔ FailsSomewhere Forward counter_file 0 b)
      (fails_at_one Forward forward_pairs 0 0 1 (omega arith) refl refl) (fails_at_none Forward forward_pairs 0 1 refl refl refl refl) q q_in)
      (at_two (λ b. (conflicts forward_pairs 1 b ≡ true) ↔ FailsSomewhere Forward counter_file 1 b)
      (fails_at_none Forward forward_pairs 1 0 refl refl refl refl) (fails_at_one Forward forward_pairs 1 1 1 (omega arith) refl refl) q q_in)
      p p_in;
}

-- ---- its table

table_is_counter : IsTableOfFamily (counter 2 (1 ∷ [])) counter_table
unfolding next
table_is_counter = record {
  name = refl;
  states = refl;
  initial = refl;
  ops = rw (decimal_digit 1 (omega arith)) refl;
  steps = λ s k s_in k_in.
      at_two (λ c. next counter_table s c ≡ (counter 2 (1 ∷ [])).step s c)
      (at_three (λ r. next counter_table r 0 ≡ (counter 2 (1 ∷ [])).step r 0) refl refl refl s s_in)
      (at_three (λ r. next counter_table r 1 ≡ (counter 2 (1 ∷ [])).step r 1) refl refl refl s s_in)
      k k_in;
}

pub counter_is_made : IsFileOfFamily (counter 2 (1 ∷ [])) counter_file
counter_is_made = record {
  table = table_is_counter;
  reach = refl;
  made = record { table = counter-table; relation = counter-exact; undo = undo_is_made; intentions = intentions_are_made };
}

-- ---- its parameters

pub one_amount : AreAmounts 2 (1 ∷ [])
one_amount = record {
  some_cap = omega arith;
  cap_fits = omega arith;
  some = omega arith;
  each = λ i i_in. below_more (λ j. (1 ≤ amount_at (1 ∷ []) j) × (amount_at (1 ∷ []) j ≤ 2)) 0 (below_none _) (omega arith, omega arith) i i_in;
  ascending = λ i i_in. absurd (omega (arith, i_in));
}
