-- The counter of the worked examples: its state says the reply, as each of its calls has one.
use Rattle.std.proofs.Common.{◌≡◌, ℕ, ◌<◌, true, refl}
use Rattle.std.proofs.lemmas.Bool.{false≢true}
use Rattle.type_table.specs.Examples.{counter_table}
use Rattle.type_table.specs.Laws.{StepsWithin}
use Rattle.type_table.specs.Table.{next, is_same_call}
use Rattle.type_table.proofs.Legal.{some_state}
use Rattle.table_checker.proofs.Examples.{at_two, counter-table}
use Rattle.made_runs.specs.Made.{HasOneReply}

each-two : (k : ℕ) → k < 2 → (j : ℕ) → j < 2 → is_same_call counter_table k j ≡ true → k ≡ j
each-two =
    at_two (λ k. (j : ℕ) → j < 2 → is_same_call counter_table k j ≡ true → k ≡ j)
    (at_two (λ j. is_same_call counter_table 0 j ≡ true → 0 ≡ j) (λ same. refl) (λ same. absurd (false≢true same)))
    (at_two (λ j. is_same_call counter_table 1 j ≡ true → 1 ≡ j) (λ same. absurd (false≢true same)) (λ same. refl))

pub counter-once : StepsWithin → HasOneReply counter_table
counter-once within = λ s k j k_legal j_legal same.
    let first = some_state (next counter_table s k) k_legal in
    let second = some_state (next counter_table s j) j_legal in
    each-two k (within counter_table s k first.0 counter-table first.1).1 j (within counter_table s j second.0 counter-table second.1).1 same
