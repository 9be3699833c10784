-- What slots hold, looked up for each transaction.
use Rattle.std.proofs.Common.{◌≡◌, ◌≢◌, ℕ, ◌+◌, ◌<◌, ◌≤◌, List, [], ◌∷◌, ◌++◌, length, set, get_or, refl, sym, ap, ◌∙◌, inl, inr, arith}
use Rattle.std.proofs.lemmas.Bool.{cases_eq, cases_lt}
use Rattle.std.proofs.lemmas.List.{ext_get_or, get_or-map, get_or_past, get_or_push, get_or_append_left, get_or-set_same, get_or-set_other, length-map, length-set, length_push, map-append}
use Rattle.open_transactions.specs.InSlots.{slot_of, looked, IsPlaced}

-- a transaction without a slot is none
pub beyond : {X : Type 0} (ended : ℕ) (none : X) (held : List X) (index : List ℕ) (t : ℕ) → length held ≤ ended → slot_of ended index t ≡ ended → get_or held (slot_of ended index t) none ≡ none
beyond ended none held index t few e = get_or_past held (slot_of ended index t) none (omega (arith, e))

-- what one transaction has
pub at : {X : Type 0} (ended : ℕ) (none : X) (held : List X) (index : List ℕ) (t : ℕ) → length held ≤ ended → get_or (looked none held index) t none ≡ get_or held (slot_of ended index t) none
at ended none held index t few =
    elim (cases_lt t (length index)) [
      | inl inside ↦ get_or-map (λ slot. get_or held slot none) index t ended none inside
      | inr past ↦
          get_or_past (looked none held index) t none (omega (arith, length-map index (λ slot. get_or held slot none)))
          ∙ sym (beyond ended none held index t few (get_or_past index t ended past))
    ]

-- two tables are equal where each transaction has the same
pub each-same : {X : Type 0} (ended : ℕ) (none : X) (held : List X) (index : List ℕ) (rows : List X) → length held ≤ ended → length index ≡ length rows
    → ((t : ℕ) → t < length index → get_or held (slot_of ended index t) none ≡ get_or rows t none) → looked none held index ≡ rows
each-same ended none held index rows few len h =
    ext_get_or none (looked none held index) rows (length-map index (λ slot. get_or held slot none) ∙ len) (λ t inside.
    at ended none held index t few ∙ h t (omega (arith, length-map index (λ slot. get_or held slot none))))

module _ {X : Type 0} {ended : ℕ} (none : X) (held : List X) (index numbers : List ℕ) (placed : IsPlaced ended index numbers) (same_length : length held ≡ length numbers) where
  pub few : length held ≤ ended
  few = omega (arith, placed.few)

  pub len-looked : length (looked none held index) ≡ length index
  len-looked = length-map index (λ slot. get_or held slot none)

  -- a slot is the slot of one transaction
  pub other-slot : (t u : ℕ) → slot_of ended index t < length held → u ≢ t → slot_of ended index u ≢ slot_of ended index t
  other-slot t u inside other e =
      other (sym (placed.same u (λ over. omega (arith, placed.few))) ∙ ap (λ k. get_or numbers k 0) e ∙ placed.same t (λ over. omega (arith, placed.few)))

  -- a transaction with a slot began
  pub slot-began : (t : ℕ) → slot_of ended index t < length held → t < length index
  slot-began t inside =
      elim (cases_lt t (length index)) [
        | inl began ↦ began
        | inr past ↦ absurd (omega (arith, get_or_past index t ended past, few))
      ]

  -- what one slot holds changes
  pub looked-set : (t : ℕ) (value : X) → slot_of ended index t < length held → looked none (set held (slot_of ended index t) value) index ≡ set (looked none held index) t value
  looked-set t value inside =
      each-same ended none (set held (slot_of ended index t) value) index (set (looked none held index) t value)
      (omega (arith, few, length-set held (slot_of ended index t) value))
      (sym (length-set (looked none held index) t value ∙ len-looked))
      (λ u began. elim (cases_eq u t) [
        | inl here ↦
            ap (λ v. get_or (set held (slot_of ended index t) value) (slot_of ended index v) none) here
            ∙ get_or-set_same held (slot_of ended index t) value none inside
            ∙ sym (ap (λ v. get_or (set (looked none held index) t value) v none) here ∙ get_or-set_same (looked none held index) t value none (omega (arith, len-looked, slot-began t inside)))
        | inr other ↦
            get_or-set_other held (slot_of ended index t) (slot_of ended index u) value none (other-slot t u inside other)
            ∙ sym (get_or-set_other (looked none held index) t u value none other ∙ at ended none held index u few)
      ])

  -- one more slot, and one more transaction that has it
  pub looked-more : (value : X) → length held < ended → looked none (held ++ value ∷ []) (index ++ length held ∷ []) ≡ looked none held index ++ value ∷ []
  looked-more value room =
      map-append (λ slot. get_or (held ++ value ∷ []) slot none) index (length held ∷ [])
      ∙ ap (λ old. old ++ get_or (held ++ value ∷ []) (length held) none ∷ []) before
      ∙ ap (λ v. looked none held index ++ v ∷ []) (get_or_push held value none (length held) refl)
    where
      more : length (held ++ value ∷ []) ≡ length held + 1
      more = length_push held value

      before : looked none (held ++ value ∷ []) index ≡ looked none held index
      before =
          each-same ended none (held ++ value ∷ []) index (looked none held index) (omega (arith, more)) (sym len-looked) (λ u began.
          elim (cases_eq (slot_of ended index u) ended) [
            | inl over ↦ get_or_past (held ++ value ∷ []) (slot_of ended index u) none (omega (arith, more, over)) ∙ sym (at ended none held index u few ∙ beyond ended none held index u few over)
            | inr slotted ↦ get_or_append_left held (value ∷ []) none (slot_of ended index u) (omega (arith, placed.slot u slotted)) ∙ sym (at ended none held index u few)
          ])
