-- An open transaction of a store: where its operations are, and what is known of them.
use Rattle.std.proofs.Common.{◌≡◌, ℕ, ◌-◌, ◌<◌, ◌≤◌, true, List, length, Option, Some, None, is_some, All, refl, sym, ap, subst, ◌∙◌}
use Rattle.std.proofs.lemmas.Bool.{true≢false}
use Rattle.std.proofs.lemmas.List.Elements.{All-drop}
use Rattle.object_trait.specs.Meaning.{Meaning}
use Rattle.object_trait.specs.declared.event.Event.{Event}
use Rattle.serial_order.specs.Operations.{of}
use Rattle.serial_order.specs.History.{summary, is_open}
use Rattle.object_calls.specs.Ends.{HasLast}
use Rattle.open_transactions.specs.Transactions as table
use Rattle.open_transactions.specs.Transactions.{Row, row, objects_of_row}
use Rattle.store_laws.specs.Kept.{keeping, IsKept}
use Rattle.store_laws.specs.Before.{last_places, RowsSayWhoIsOpen, PlacesAreCounted, PlacesAreFew, PlacesAreInside, HasWhatIsStruck}

-- something is there
pub some-of : {A : Type 0} (o : Option A) → is_some o ≡ true → (a : A) × (o ≡ Some a)
some-of None there = absurd (true≢false (sym there))
some-of (Some a) there = (a, refl)

-- what the table says of a transaction is what the history says
pub open-alike : RowsSayWhoIsOpen → (ms : List Meaning) (rows : List (Option Row)) (H : List Event) (t : ℕ) → IsKept (keeping ms rows) H
    → is_open (summary H) t ≡ table.has_row rows t
open-alike says ms rows H t kept = says (keeping ms rows) H t kept

module _ (ms : List Meaning) (rows : List (Option Row)) (H : List Event) (t : ℕ) (places : List ℕ) (kept : IsKept (keeping ms rows) H)
    (going : table.has_row rows t ≡ true) (its : places ≡ objects_of_row (row rows t)) where
  -- its row
  pub its-row : (r : Row) × (row rows t ≡ Some r)
  its-row = some-of (row rows t) going

  -- with its places
  pub row-places : (its-row.0).places ≡ places
  row-places = sym (its ∙ ap objects_of_row its-row.1)

  pub places-inside : PlacesAreInside → (n : ℕ) → length ms ≡ n → All (λ x. x < n) places
  places-inside inside n many =
      subst (λ k. All (λ x. x < k) places) many
      (subst (λ ps. All (λ x. x < length ms) ps) row-places (inside (keeping ms rows) H t its-row.0 kept its-row.1))

  pub places-counted : PlacesAreCounted → length (of t (summary H).survives) ≡ length places
  places-counted counted = counted (keeping ms rows) H t its-row.0 kept its-row.1 ∙ ap length row-places

  pub places-few : PlacesAreFew → length places ≤ length H
  places-few few = subst (λ ps. length ps ≤ length H) row-places (few (keeping ms rows) H t its-row.0 kept its-row.1)

  -- where its last operations are
  pub struck-inside : PlacesAreInside → (n k : ℕ) (struck : List ℕ) → length ms ≡ k → struck ≡ last_places n places → All (λ x. x < k) struck
  struck-inside inside n k struck many ends =
      subst (λ ps. All (λ x. x < k) ps) (sym ends) (All-drop (λ x. x < k) (length places - n) places (places-inside inside k many))

  pub struck-last : HasWhatIsStruck → (n : ℕ) (struck : List ℕ) → struck ≡ last_places n places → HasLast t struck ms
  struck-last has n struck ends =
      subst (λ ps. HasLast t ps ms) (sym (ends ∙ ap (last_places n) (sym row-places)))
      (has (keeping ms rows) H t n its-row.0 kept its-row.1)
