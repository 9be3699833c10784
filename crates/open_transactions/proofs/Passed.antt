-- A transaction that has ended where it begins.
use Rattle.std.proofs.Common.{◌≡◌, ℕ, ◌+◌, ◌<◌, zero, suc, List, [], ◌∷◌, ◌++◌, length, map, get_or, refl, sym, ap, subst, ◌∙◌, arith, Option, None, Some}
use Rattle.std.proofs.lemmas.List.{get_or_past, length-map, length_push, map-append}
use Rattle.open_transactions.specs.declared.open_transactions.OpenTransaction.{OpenTransaction}
use Rattle.open_transactions.specs.Transactions.{Row, count_open}
use Rattle.open_transactions.specs.Index.{ended}
use Rattle.open_transactions.specs.InSlots.{slot_of, IsPlaced}
use Rattle.open_transactions.specs.Slots.{transaction_number, open_row, open_rows, AreSlots}
use Rattle.open_transactions.proofs.Counts.{count-none}
use Rattle.open_transactions.proofs.InSlots.{as-many}

-- what is behind a list is as what is put there
past-same : (d : ℕ) (xs : List ℕ) (t : ℕ) → get_or (xs ++ d ∷ []) t d ≡ get_or xs t d
past-same d [] zero = refl
past-same d [] (suc t) = refl
past-same d (x ∷ xs) zero = refl
past-same d (x ∷ xs) (suc t) = past-same d xs t

-- no slot is another
slot-same : (index : List ℕ) (t : ℕ) → slot_of ended (index ++ ended ∷ []) t ≡ slot_of ended index t
slot-same index t = past-same ended index t

passed-placed : (index numbers : List ℕ) → IsPlaced ended index numbers → IsPlaced ended (index ++ ended ∷ []) numbers
passed-placed index numbers placed = record {
  few = placed.few;
  slot = λ t slotted. subst (λ k. k < length numbers) (sym (slot-same index t)) (placed.slot t (λ e. slotted (slot-same index t ∙ e)));
  same = λ t slotted. ap (λ k. get_or numbers k 0) (slot-same index t) ∙ placed.same t (λ e. slotted (slot-same index t ∙ e));
  back = λ k below. slot-same index (get_or numbers k 0) ∙ placed.back k below;
}

module _ (slots : List OpenTransaction) (index : List ℕ) (known : AreSlots slots index) (rows : List (Option Row)) (shown : open_rows slots index ≡ rows) where
  -- it has no row
  pub passed-shown : open_rows slots (index ++ ended ∷ []) ≡ rows ++ None ∷ []
  passed-shown =
      let held : List (Option Row) = map (λ slot. Some (open_row slot)) slots in
      let none : get_or held ended None ≡ None = get_or_past held ended None (omega (arith, known.few, length-map slots (λ slot. Some (open_row slot)))) in
      map-append (λ slot. get_or held slot None) index (ended ∷ []) ∙ ap (λ o. open_rows slots index ++ o ∷ []) none ∙ ap (λ R. R ++ None ∷ []) shown

  pub passed-known : length rows < 4294967295 → AreSlots slots (index ++ ended ∷ [])
  passed-known fits = record {
    few = known.few;
    placed = passed-placed index (map transaction_number slots) known.placed;
    counted = ap count_open passed-shown ∙ count-none rows ∙ sym (ap count_open shown) ∙ known.counted;
    begun = omega (arith, as-many transaction_number open_row slots index known.placed rows shown, length_push index ended, fits);
  }
