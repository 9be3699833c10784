use Rattle.std.proofs.Common.{◌≡◌, ◌∙◌, ℕ, None, Some, true, false, ap, codes, refl}
use Rattle.std.specs.Prelude.{option_map}
use Rattle.sqlite_value.proofs.OrderLemmas.{value_cmp-Int}
use Rattle.transaction_key.specs.TransactionKey.{key_place}
use Rattle.journal.specs.declared.outcome_row.KeptOutcome.{KeptOutcome}
use Rattle.journal.specs.declared.place_row.PlaceRow.TheVariants.{Pointer, Whole}
use Rattle.journal.specs.Examples.{first_outcome, order_committed, place_of_abc, second_outcome, rows_awaiting}
use Rattle.journal.specs.Numbers.{numbers_in}
use Rattle.journal.specs.OutcomeIndex.{is_placed, kept_from, kept_row, last_number, led_to, outcome_numbered, placed, row_at}
use Rattle.journal.specs.Outcomes.{staying_from}
use Rattle.journal.proofs.KeptRows.{kept-known, kept-last, kept-led}
use Rattle.journal.proofs.worked.outcomes_that_await.Goals as goal

-- what each row says
numbers-are : (count : ℕ) → record { next = 3; first = 0; least = 2; awaiting = count } ≡ numbers_in (rows_awaiting count)
unfolding numbers_in
numbers-are count = simp value_cmp-Int refl

first-is : (count : ℕ) → outcome_numbered (rows_awaiting count) 1 ≡ Some first_outcome
unfolding outcome_numbered row_at
first-is count = simp value_cmp-Int refl

second-is : (count : ℕ) → outcome_numbered (rows_awaiting count) 2 ≡ Some second_outcome
unfolding outcome_numbered row_at
second-is count = simp value_cmp-Int refl

pointer-is : (count : ℕ) → placed (rows_awaiting count) place_of_abc ≡ Some (Pointer 1)
unfolding placed row_at
pointer-is count = simp value_cmp-Int refl

other-is : (count : ℕ) → placed (rows_awaiting count) 8 ≡ Some (Pointer 1)
unfolding placed row_at
other-is count = simp value_cmp-Int refl

whole-is : (count : ℕ) → placed (rows_awaiting count) 7 ≡ Some (Whole order_committed)
unfolding placed row_at
whole-is count = simp value_cmp-Int refl

-- whose key has which place
module _ (abc : key_place (codes "abc") ≡ place_of_abc) where
  second-has : (count : ℕ) → is_placed (rows_awaiting count) place_of_abc 2 ≡ true
  unfolding is_placed
  second-has count = rw (second-is count) (rw abc refl)

  second-apart : (count : ℕ) → is_placed (rows_awaiting count) 7 2 ≡ false
  unfolding is_placed
  second-apart count = rw (second-is count) (rw abc refl)

  first-has : (count : ℕ) → is_placed (rows_awaiting count) place_of_abc 1 ≡ true
  unfolding is_placed
  first-has count = rw (first-is count) (rw abc refl)

  first-apart : (count : ℕ) → is_placed (rows_awaiting count) 8 1 ≡ false
  unfolding is_placed
  first-apart count = rw (first-is count) (rw abc refl)

  last-is : (count : ℕ) → last_number (rows_awaiting count) place_of_abc 2 1 ≡ Some 2
  unfolding last_number
  last-is count = rw (second-has count) refl

  none-is : last_number (rows_awaiting 1) 7 2 1 ≡ None
  unfolding last_number
  none-is = rw (second-apart 1) refl

  pub last-kept : kept_row (rows_awaiting 1) place_of_abc ≡ Some second_outcome
  last-kept = kept-known (rows_awaiting 1) _ place_of_abc (numbers-are 1) ∙ kept-last (rows_awaiting 1) 2 1 place_of_abc 2 (last-is 1) ∙ second-is 1

  pub pointed-kept : kept_row (rows_awaiting 0) place_of_abc ≡ Some first_outcome
  unfolding last_number
  pointed-kept =
      kept-known (rows_awaiting 0) _ place_of_abc (numbers-are 0) ∙ kept-led (rows_awaiting 0) 3 0 place_of_abc refl ∙ ap (led_to (rows_awaiting 0) 3 place_of_abc) (pointer-is 0)
      ∙ rw (first-has 0) (first-is 0)

  pub elsewhere-kept : kept_row (rows_awaiting 0) 8 ≡ None
  unfolding last_number
  elsewhere-kept = kept-known (rows_awaiting 0) _ 8 (numbers-are 0) ∙ kept-led (rows_awaiting 0) 3 0 8 refl ∙ ap (led_to (rows_awaiting 0) 3 8) (other-is 0) ∙ rw (first-apart 0) refl

  pub whole-kept : kept_row (rows_awaiting 1) 7 ≡ Some order_committed
  whole-kept = kept-known (rows_awaiting 1) _ 7 (numbers-are 1) ∙ kept-led (rows_awaiting 1) 2 1 7 none-is ∙ ap (led_to (rows_awaiting 1) 2 7) (whole-is 1)

  pub uncounted-kept : kept_from (rows_awaiting 0) 2 1 place_of_abc ≡ Some second_outcome
  uncounted-kept = kept-last (rows_awaiting 0) 2 1 place_of_abc 2 (last-is 0) ∙ second-is 0

pub returns-clause-last : goal.returns-clause-last
returns-clause-last c = last-kept c.a_place.ensures

pub returns-clause-pointed : goal.returns-clause-pointed
returns-clause-pointed c = pointed-kept c.a_place.ensures

pub returns-clause-elsewhere : goal.returns-clause-elsewhere
returns-clause-elsewhere c = elsewhere-kept c.a_place.ensures

pub returns-clause-whole : goal.returns-clause-whole
returns-clause-whole c = whole-kept c.a_place.ensures

pub returns-clause-uncounted : goal.returns-clause-uncounted
returns-clause-uncounted c = ap (λ k. option_map (λ (o : KeptOutcome). o.kept) (staying_from 0 k)) (uncounted-kept c.a_place.ensures)
