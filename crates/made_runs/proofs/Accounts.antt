-- The small account of the worked examples: its state says the reply.
use Rattle.std.proofs.Common.{◌≡◌, ℕ, ◌<◌, true, [], ◌∷◌, IsSome, refl, arith, lt-ltb}
use Rattle.std.proofs.lemmas.Bool.{false≢true, ltb-true}
use Rattle.type_table.specs.Laws.{StepsWithin}
use Rattle.type_table.specs.Table.{IsTable, has_op, next, is_same_call}
use Rattle.type_table.proofs.Legal.{some_state}
use Rattle.table_checker.proofs.Examples.{at_two, at_three}
use Rattle.serial_order.specs.Examples.{small_account}
use Rattle.dynamic_atomicity.specs.Converse.{IsReachable, IsReached, StepsHaveOps}
use Rattle.dynamic_atomicity.specs.OrderExamples.{loose_account}
use Rattle.made_runs.specs.Made.{HasOneReply}

small_table : IsTable small_account
small_table = record {
  some_states = omega arith;
  states_fit = omega arith;
  some_ops = omega arith;
  ops_fit = omega arith;
  whole = refl;
  initial_inside = omega arith;
  steps_inside = refl;
  no_twin = refl;
}

-- two operations are legal at s, and of one call
abbrev AreTwo : ℕ → ℕ → ℕ → Type 0
AreTwo s k j = IsSome (next small_account s k) → IsSome (next small_account s j) → is_same_call small_account k j ≡ true → k ≡ j

-- the balance is 0 or 1
apart : (s : ℕ) → s < 2 → IsSome (next small_account s 1) → IsSome (next small_account s 2) → ⊥
unfolding next
apart = at_two (λ s. IsSome (next small_account s 1) → IsSome (next small_account s 2) → ⊥) (λ none one. false≢true one) (λ none one. false≢true none)

each-two : (s : ℕ) → s < 2 → (k : ℕ) → k < 3 → (j : ℕ) → j < 3 → AreTwo s k j
each-two s inside =
    at_three (λ k. (j : ℕ) → j < 3 → AreTwo s k j)
    (at_three (λ j. AreTwo s 0 j) (λ a b same. refl) (λ a b same. absurd (false≢true same)) (λ a b same. absurd (false≢true same)))
    (at_three (λ j. AreTwo s 1 j) (λ a b same. absurd (false≢true same)) (λ a b same. refl) (λ a b same. absurd (apart s inside a b)))
    (at_three (λ j. AreTwo s 2 j) (λ a b same. absurd (false≢true same)) (λ a b same. absurd (apart s inside b a)) (λ a b same. refl))

pub small-once : StepsWithin → HasOneReply small_account
small-once within = λ s k j k_legal j_legal same.
    let first = some_state (next small_account s k) k_legal in
    let second = some_state (next small_account s j) j_legal in
    let at_k = within small_account s k first.0 small_table first.1 in
    let at_j = within small_account s j second.0 small_table second.1 in
    each-two s at_k.0 k at_k.1 j at_j.1 k_legal j_legal same

pub small-named : StepsWithin → StepsHaveOps small_account
small-named within = λ s k legal.
    let step = some_state (next small_account s k) legal in
    at_three (λ c. has_op small_account c ≡ true) refl refl refl k (within small_account s k step.0 small_table step.1).1

-- each balance is reached
two-reached : (s : ℕ) → s < 2 → IsReachable small_account s
unfolding next
two-reached = at_two (IsReachable small_account) ([], refl) (0 ∷ [], refl)

pub loose-reached : StepsWithin → IsReached loose_account
loose-reached within = record {
  begins_inside = refl;
  closed = λ s k t member step. lt-ltb t 2 (within small_account s k t small_table step).2;
  reach = λ s member. two-reached s (ltb-true s 2 member);
}
