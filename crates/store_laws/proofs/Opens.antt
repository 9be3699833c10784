-- What a new store keeps; and the rows of what is kept: who is open, how many are, and how many operations each has.
use Rattle.std.proofs.Common.{◌≡◌, ℕ, suc, ◌+◌, ◌≤◌, Bool, cond, List, [], ◌∷◌, filter, length, Option, Some, None, is_some, slice_get, refl, sym, ap, ◌∙◌, inl, inr, arith}
use Rattle.std.specs.List.{count_by, range_with_len}
use Rattle.std.proofs.lemmas.Bool.{cases_Bool, cases_lt, le-ltb, and_left}
use Rattle.std.proofs.lemmas.List.{length-map, get_or_past}
use Rattle.std.proofs.lemmas.List.Sums.{sum_by-cons}
use Rattle.std.proofs.lemmas.Option.{none-some, get_or_from_slice_get}
use Rattle.type_table.proofs.Elements.{element_at, filter-length}
use Rattle.object_trait.specs.Laws.{FreshIsSound, CheckedIsCovered}
use Rattle.object_trait.specs.declared.event.Event.{Event}
use Rattle.serial_order.specs.Operations.{of}
use Rattle.serial_order.specs.History.{summary, is_open, is_begin, surviving}
use Rattle.serial_order.specs.Laws.{FreshRepresents}
use Rattle.serial_order.specs.declared.entry.Entry.{Entry}
use Rattle.open_transactions.specs.Transactions.{Row}
use Rattle.store_laws.specs.Kept.{Keeping, IsKept}
use Rattle.store_laws.specs.Before.{NewIsKept, row_before, RowsSayWhoIsOpen, RowsAreCounted, PlacesAreCounted, RowsAreFew, PlacesAreFew}
use Rattle.serial_order.proofs.Living.{living_of-length}
use Rattle.store_laws.proofs.Places.{row-places}

-- ---- a new store

pub new_is_kept : CheckedIsCovered → FreshIsSound → FreshRepresents → NewIsKept
new_is_kept covers sound represents = λ k new.
    record {
      run = tt;
      objects = λ x m is.
          let checked = new.checked x m is in
          let fresh = new.fresh x m is in
          record { checked = checked; sound = sound m (covers m.checked checked).0 fresh; represents = represents m x fresh };
      begun = ap length new.rows;
      transactions = λ t row is. absurd (none-some row (ap (λ rows. slice_get rows t) (sym new.rows) ∙ is));
    }

-- ---- who is open

-- by a row that is there
open-row : (k : Keeping) (H : List Event) (t : ℕ) (row : Option Row) → IsKept k H → slice_get k.rows t ≡ Some row → is_open (summary H) t ≡ is_some (row_before k t)
open-row k H t row kept there = sym (kept.transactions t row there).going ∙ ap is_some (sym (get_or_from_slice_get k.rows t row None there))

-- a transaction that never began
never-began : (k : Keeping) (H : List Event) (t : ℕ) → IsKept k H → length k.rows ≤ t → is_open (summary H) t ≡ is_some (row_before k t)
never-began k H t kept past =
    let begun = kept.begun in
    and_left _ _ (le-ltb t (summary H).begun (omega (arith, begun, past))) ∙ ap is_some (sym (get_or_past k.rows t None past))

pub rows_say_who_is_open : RowsSayWhoIsOpen
rows_say_who_is_open k H t kept =
    elim (cases_lt t (length k.rows)) [
      | inl low ↦ let found = element_at k.rows t low in open-row k H t found.0 kept found.1
      | inr past ↦ never-began k H t kept past
    ]

-- ---- how many are

-- one more element is one more that passes, or none
count-cons : {E : Type 0} (test : E → Bool) (e : E) (V : List E) → length (filter test (e ∷ V)) ≡ cond (test e) 1 0 + length (filter test V)
count-cons test e V =
    elim (cases_Bool (test e)) [
      | inl passes ↦ rw passes (omega arith)
      | inr fails ↦ rw fails (omega arith)
    ]

-- as many numbers pass as elements are something, where a number passes exactly where the element there is something
count-open : {X : Type 0} (first : ℕ) (rows : List (Option X)) (test : ℕ → Bool)
    → ((i : ℕ) (row : Option X) → slice_get rows i ≡ Some row → test (first + i) ≡ is_some row)
    → length (filter test (range_with_len first (length rows))) ≡ count_by is_some rows
count-open first [] test same = refl
count-open first (row ∷ rows) test same =
    let here : test first ≡ is_some row = ap test (omega arith) ∙ same 0 row refl in
    let rest : length (filter test (range_with_len (first + 1) (length rows))) ≡ count_by is_some rows =
    count-open (first + 1) rows test (λ i r there. ap test (omega arith) ∙ same (suc i) r there)
    in
    count-cons test first (range_with_len (first + 1) (length rows))
    ∙ ap (λ b. cond b 1 0 + length (filter test (range_with_len (first + 1) (length rows)))) here
    ∙ ap (λ n. cond (is_some row) 1 0 + n) rest
    ∙ sym (sum_by-cons (λ x. cond (is_some x) 1 0) row rows)

pub rows_are_counted : RowsAreCounted
rows_are_counted = λ k H kept.
    ap (λ n. length (filter (is_open (summary H)) (range_with_len 0 n))) (sym kept.begun)
    ∙ count-open 0 k.rows (is_open (summary H)) (λ i row there. ap (is_open (summary H)) (omega arith) ∙ sym (kept.transactions i row there).going)

-- ---- how many operations each has

pub places_are_counted : PlacesAreCounted
places_are_counted = λ k H t row kept there.
    sym (ap length (row-places k H t row kept there) ∙ length-map (of t (surviving H)) (λ (e : Entry). e.at))

-- ---- no more than events

pub rows_are_few : RowsAreFew
rows_are_few = λ k H kept.
    let few = filter-length (λ (e : Event). is_begin e.kind) H in
    let begun = kept.begun in
    omega (arith, few, begun)

pub places_are_few : PlacesAreFew
places_are_few = λ k H t row kept there.
    let own = ap length (row-places k H t row kept there) ∙ length-map (of t (surviving H)) (λ (e : Entry). e.at) in
    let few = living_of-length t H in
    omega (arith, own, few)
