-- Rows in slots, whatever a slot is and shows, as calls read and write them: one is read, one changes, one more begins, one ends.
use Rattle.std.proofs.Common.{◌≡◌, ◌≢◌, ℕ, ◌+◌, ◌-◌, ◌<◌, ◌≤◌, true, false, not, eqb, List, [], ◌∷◌, ◌++◌, length, map, take, set, get_or, refl, sym, ap, subst, ◌∙◌, inl, inr, arith, Option, None, Some}
use Rattle.std.specs.Option.{is_some}
use Rattle.std.specs.List.{swap_remove, take-map}
use Rattle.std.proofs.lemmas.Bool.{cases_eq, cases_lt, eq-eqb, ne_eqb}
use Rattle.std.proofs.lemmas.List.{get_or-map, get_or_default, get_or_past, get_or_push, get_or_append_left, get_or-set_same, get_or-set_other, length-map, length_push, map-set, map-append}
use Rattle.std.proofs.Math.Seq.{map-set_same}
use Rattle.open_transactions.specs.Transactions.{row, has_row}
use Rattle.open_transactions.specs.InSlots.{slot_of, looked, shown_rows, IsPlaced}
use Rattle.open_transactions.proofs.Looked.{at, looked-set, looked-more, slot-began}
use Rattle.open_transactions.proofs.Ended.{without, moved_to, length-without, looked-ended, placed-ended}

-- ---- places

-- one more slot, and one more transaction that has it
module _ {ended : ℕ} (index numbers : List ℕ) (placed : IsPlaced ended index numbers) (room : length numbers < ended) where
  more : length (numbers ++ length index ∷ []) ≡ length numbers + 1
  more = length_push numbers (length index)

  here : (t : ℕ) → t < length index → slot_of ended (index ++ length numbers ∷ []) t ≡ slot_of ended index t
  here t before = get_or_append_left index (length numbers ∷ []) ended t before

  is_next : (t : ℕ) → length index ≤ t → slot_of ended (index ++ length numbers ∷ []) t ≢ ended → length index ≡ t
  is_next t past slotted =
      elim (cases_eq (length index) t) [
        | inl e ↦ e
        | inr other ↦ absurd (slotted (get_or_past (index ++ length numbers ∷ []) t ended (omega (arith, length_push index (length numbers)))))
      ]

  there : (t : ℕ) → length index ≤ t → slot_of ended (index ++ length numbers ∷ []) t ≢ ended → slot_of ended (index ++ length numbers ∷ []) t ≡ length numbers
  there t past slotted = get_or_push index (length numbers) ended t (is_next t past slotted)

  placed-more : IsPlaced ended (index ++ length numbers ∷ []) (numbers ++ length index ∷ [])
  placed-more = record {
    few = omega (arith, more);
    slot = λ t slotted. elim (cases_lt t (length index)) [
      | inl before ↦ omega (arith, more, here t before, placed.slot t (λ e. slotted (here t before ∙ e)))
      | inr past ↦ omega (arith, more, there t past slotted)
    ];
    same = λ t slotted. elim (cases_lt t (length index)) [
      | inl before ↦
          let old : slot_of ended index t ≢ ended = λ e. slotted (here t before ∙ e) in
          ap (λ k. get_or (numbers ++ length index ∷ []) k 0) (here t before)
          ∙ get_or_append_left numbers (length index ∷ []) 0 (slot_of ended index t) (placed.slot t old)
          ∙ placed.same t old
      | inr past ↦
          ap (λ k. get_or (numbers ++ length index ∷ []) k 0) (there t past slotted)
          ∙ get_or_push numbers (length index) 0 (length numbers) refl
          ∙ is_next t past slotted
    ];
    back = λ k below. elim (cases_lt k (length numbers)) [
      | inl before ↦
          ap (slot_of ended (index ++ length numbers ∷ [])) (get_or_append_left numbers (length index ∷ []) 0 k before)
          ∙ here (get_or numbers k 0) (slot-began 0 numbers index numbers placed refl (get_or numbers k 0) (omega (arith, placed.back k before)))
          ∙ placed.back k before
      | inr past ↦
          let last : k ≡ length numbers = omega (arith, more) in
          ap (slot_of ended (index ++ length numbers ∷ [])) (get_or_push numbers (length index) 0 k (sym last))
          ∙ get_or_push index (length numbers) ended (length index) refl ∙ sym last
    ];
  }

-- ---- rows

-- an open transaction began
pub open-began : {R : Type 0} (rows : List (Option R)) (t : ℕ) → has_row rows t ≡ true → t < length rows
open-began {R} rows t opened =
    elim (cases_lt t (length rows)) [
      | inl began ↦ began
      | inr past ↦ let no : is_some (row rows t) ≡ is_some {T = R} None = ap is_some (get_or_past rows t None past) in cc
    ]

module _ {S R : Type 0} {ended : ℕ} (number : S → ℕ) (shown : S → R) (slots : List S) (index : List ℕ) (placed : IsPlaced ended index (map number slots))
    (rows : List (Option R)) (rows_are : shown_rows shown slots index ≡ rows) where
  abbrev row_of : S → Option R
  row_of slot = Some (shown slot)

  len-numbers : length (map number slots) ≡ length slots
  len-numbers = length-map slots number

  len-rows : length (map row_of slots) ≡ length slots
  len-rows = length-map slots row_of

  -- there is a row for each that began
  pub as-many : length rows ≡ length index
  as-many = sym (ap length rows_are) ∙ length-map index (λ slot. get_or (map row_of slots) slot None)

  -- a row is looked up by its slot
  row-at : (t : ℕ) → row rows t ≡ get_or (map row_of slots) (slot_of ended index t) None
  row-at t = ap (λ r. get_or r t None) (sym rows_are) ∙ at ended None (map row_of slots) index t (omega (arith, placed.few, len-numbers, len-rows))

  -- an open transaction has a slot
  open-slot : (t : ℕ) → has_row rows t ≡ true → slot_of ended index t < length slots
  open-slot t opened =
      elim (cases_lt (slot_of ended index t) (length slots)) [
        | inl inside ↦ inside
        | inr past ↦
            let no : is_some (row rows t) ≡ is_some {T = R} None = ap is_some (row-at t ∙ get_or_past (map row_of slots) (slot_of ended index t) None (omega (arith, len-rows))) in cc
      ]

  -- and is open where it has one
  slot-open : (t : ℕ) → slot_of ended index t < length slots → has_row rows t ≡ true
  slot-open t inside = ap is_some (row-at t) ∙ some-row slots (slot_of ended index t) inside
    where
      some-row : (slots : List S) (k : ℕ) → k < length slots → is_some (get_or (map row_of slots) k None) ≡ true
      some-row [] k below = absurd (omega arith)
      some-row (slot ∷ rest) k below = ap is_some (get_or-map row_of (slot ∷ rest) k slot None below)

  pub open-told : (t : ℕ) → slot_of ended index t ≢ ended → has_row rows t ≡ true
  open-told t slotted = slot-open t (omega (arith, placed.slot t slotted, len-numbers))

  -- one without a slot isn't
  pub ended-told : (t : ℕ) → slot_of ended index t ≡ ended → has_row rows t ≡ false
  ended-told t over = ap is_some (row-at t ∙ get_or_past (map row_of slots) (slot_of ended index t) None (omega (arith, over, placed.few, len-numbers, len-rows)))

  -- so the slot says it
  pub open-tested : (t k : ℕ) → k ≡ slot_of ended index t → not (eqb k ended) ≡ has_row rows t
  open-tested t k read =
      elim (cases_eq k ended) [
        | inl over ↦ ap not (eq-eqb k ended over) ∙ sym (ended-told t (sym read ∙ over))
        | inr other ↦ ap not (ne_eqb k ended other) ∙ sym (open-told t (λ e. other (read ∙ e)))
      ]

  -- each slot's transaction began
  number-began : (k : ℕ) → k < length slots → get_or (map number slots) k 0 < length index
  number-began k below =
      slot-began 0 (map number slots) index (map number slots) placed refl (get_or (map number slots) k 0)
      (omega (arith, len-numbers, placed.back k (omega (arith, len-numbers))))

  -- ---- k is the slot that was read for an open transaction t, where d would have been read past the end

  module _ (t k d : ℕ) (opened : has_row rows t ≡ true) (read : k ≡ get_or index t d) where
    inside : slot_of ended index t < length slots
    inside = open-slot t opened

    began : t < length index
    began = omega (arith, open-began rows t opened, as-many)

    slot-is : slot_of ended index t ≡ k
    slot-is = get_or_default index t ended d began ∙ sym read

    pub slot-inside : k < length slots
    slot-inside = omega (arith, inside, slot-is)

    -- its row is what the slot shows
    pub slot-shows : (old : S) → old ≡ get_or slots k old → row rows t ≡ Some (shown old)
    slot-shows old old_is =
        row-at t ∙ ap (λ s. get_or (map row_of slots) s None) slot-is ∙ get_or-map row_of slots k old None slot-inside ∙ ap row_of (sym old_is)

    -- the slot is written with the same number
    pub set-placed : (old new : S) → old ≡ get_or slots k old → number new ≡ number old → IsPlaced ended index (map number (set slots k new))
    set-placed old new old_is number_is = subst (IsPlaced ended index) (sym (map-set_same number slots k new old (number_is ∙ ap number old_is))) placed

    pub set-shows : (new : S) → shown_rows shown (set slots k new) index ≡ set rows t (Some (shown new))
    set-shows new =
        ap (λ s. shown_rows shown (set slots s new) index) (sym slot-is)
        ∙ ap (λ held. looked None held index) (map-set row_of slots (slot_of ended index t) new)
        ∙ looked-set None (map row_of slots) index (map number slots) placed (len-rows ∙ sym len-numbers) t (row_of new) (omega (arith, inside, len-rows))
        ∙ ap (λ r. set r t (Some (shown new))) rows_are

    -- the transaction in the last slot is put in that slot
    module _ (len : ℕ) (len_is : len ≡ length slots) (moved : S) (moved_read : moved ≡ get_or slots (len - 1) moved) where
      abbrev last : ℕ
      last = len - 1

      last_is : last + 1 ≡ length slots
      last_is = omega (arith, inside)

      moved_is : get_or (map number slots) last 0 ≡ number moved
      moved_is = get_or-map number slots last moved 0 (omega (arith, last_is)) ∙ ap number (sym moved_read)

      pub moved-began : number moved < length index
      moved-began = subst (λ n. n < length index) moved_is (number-began last (omega (arith, last_is)))

      -- it has a slot, and t has one still when that is changed
      moved-slot : slot_of ended index (number moved) ≡ last
      moved-slot = ap (slot_of ended index) (sym moved_is) ∙ placed.back last (omega (arith, last_is, len-numbers))

      pub moved-slotted : slot_of ended index (number moved) ≢ ended
      moved-slotted e = omega (arith, moved-slot, e, last_is, len-numbers, placed.few)

      pub still-slotted : slot_of ended (set index (number moved) k) t ≢ ended
      still-slotted e =
          elim (cases_eq t (number moved)) [
            | inl here ↦
                let same : slot_of ended (set index (number moved) k) t ≡ k = ap (slot_of ended (set index (number moved) k)) here ∙ get_or-set_same index (number moved) k ended moved-began in
                omega (arith, same, e, slot-is, inside, len-numbers, placed.few)
            | inr other ↦
                let same : slot_of ended (set index (number moved) k) t ≡ slot_of ended index t = get_or-set_other index (number moved) t k ended other in
                omega (arith, same, e, inside, len-numbers, placed.few)
          ]

      module _ (removed : S) where
        -- what is removed, as what the last slot replaces
        removed-is : swap_remove slots k removed ≡ without slots (slot_of ended index t) last removed
        removed-is =
            ap (λ l. take l (set slots k (get_or slots l removed))) {x = length slots - 1} {y = last} (omega (arith, len_is))
            ∙ ap (λ s. without slots s last removed) (sym slot-is)

        moved-to-is : set (set index (number moved) k) t ended ≡ moved_to ended index t (number moved)
        moved-to-is = ap (λ s. set (set index (number moved) s) t ended) (sym slot-is)

        map-without : {X : Type 0} (f : S → X) → without (map f slots) (slot_of ended index t) last (f removed) ≡ map f (without slots (slot_of ended index t) last removed)
        map-without f =
            ap (λ x. take last (set (map f slots) (slot_of ended index t) x)) (get_or-map f slots last removed (f removed) (omega (arith, last_is)))
            ∙ ap (take last) (sym (map-set f slots (slot_of ended index t) (get_or slots last removed)))
            ∙ take-map f last (set slots (slot_of ended index t) (get_or slots last removed))

        pub end-placed : IsPlaced ended (set (set index (number moved) k) t ended) (map number (swap_remove slots k removed))
        end-placed =
            rw (moved-to-is, removed-is, sym (map-without number))
            (placed-ended index (map number slots) placed t last (number moved) (omega (arith, last_is, len-numbers)) (omega (arith, inside, len-numbers)) moved_is (number removed))

        pub end-shows : shown_rows shown (swap_remove slots k removed) (set (set index (number moved) k) t ended) ≡ set rows t None
        end-shows =
            ap (λ i. shown_rows shown (swap_remove slots k removed) i) moved-to-is
            ∙ ap (λ s. shown_rows shown s (moved_to ended index t (number moved))) removed-is
            ∙ ap (λ held. looked None held (moved_to ended index t (number moved))) (sym (map-without row_of))
            ∙ looked-ended index (map number slots) placed t last (number moved) (omega (arith, last_is, len-numbers)) (omega (arith, inside, len-numbers)) moved_is
            None (row_of removed) (map row_of slots) (len-rows ∙ sym len-numbers)
            ∙ ap (λ r. set r t None) rows_are

        -- there is one fewer
        pub end-fewer : length (swap_remove slots k removed) + 1 ≡ length slots
        end-fewer = ap (λ s. length s + 1) removed-is ∙ ap (λ n. n + 1) (length-without slots (slot_of ended index t) last removed last_is inside) ∙ last_is

  -- ---- one more begins in slot k

  module _ (k : ℕ) (k_is : k ≡ length slots) (room : length slots < ended) (new : S) where
    pub begin-placed : number new ≡ length index → IsPlaced ended (index ++ k ∷ []) (map number (slots ++ new ∷ []))
    begin-placed number_is =
        subst (λ n. IsPlaced ended (index ++ n ∷ []) (map number (slots ++ new ∷ []))) (len-numbers ∙ sym k_is)
        (subst (IsPlaced ended (index ++ length (map number slots) ∷ [])) (sym numbers_are) (placed-more index (map number slots) placed (omega (arith, len-numbers))))
      where
        numbers_are : map number (slots ++ new ∷ []) ≡ map number slots ++ length index ∷ []
        numbers_are = map-append number slots (new ∷ []) ∙ ap (λ n. map number slots ++ n ∷ []) number_is

    pub begin-shows : shown_rows shown (slots ++ new ∷ []) (index ++ k ∷ []) ≡ rows ++ Some (shown new) ∷ []
    begin-shows =
        ap (λ held. looked None held (index ++ k ∷ [])) (map-append row_of slots (new ∷ []))
        ∙ ap (λ n. looked None (map row_of slots ++ row_of new ∷ []) (index ++ n ∷ [])) (k_is ∙ sym len-rows)
        ∙ looked-more None (map row_of slots) index (map number slots) placed (len-rows ∙ sym len-numbers) (row_of new) (omega (arith, len-rows))
        ∙ ap (λ r. r ++ row_of new ∷ []) rows_are
