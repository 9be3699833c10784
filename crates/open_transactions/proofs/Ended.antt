-- The slot of a transaction that ended goes to the one in the last slot.
use Rattle.std.proofs.Common.{◌≡◌, ◌≢◌, ℕ, ◌+◌, ◌<◌, List, length, take, set, get_or, refl, sym, ap, ◌∙◌, inl, inr, arith}
use Rattle.std.proofs.lemmas.Bool.{cases_eq, cases_lt}
use Rattle.std.proofs.lemmas.List.{get_or_past, get_or_default, get_or-set_same, get_or-set_other, get_or-take, length-set, length-take-le}
use Rattle.open_transactions.specs.InSlots.{slot_of, looked, IsPlaced}
use Rattle.open_transactions.proofs.Looked.{at, each-same, slot-began, other-slot, len-looked}

-- without the k-th, whose place the last takes
abbrev pub without : {X : Type 0} → List X → ℕ → ℕ → X → List X
without xs k last d = take last (set xs k (get_or xs last d))

module _ {X : Type 0} (xs : List X) (k last : ℕ) (d : X) (counted : last + 1 ≡ length xs) (inside : k < length xs) where
  pub length-without : length (without xs k last d) ≡ last
  length-without = length-take-le last (set xs k (get_or xs last d)) (omega (arith, length-set xs k (get_or xs last d)))

  pub without-same : (none : X) → k < last → get_or (without xs k last d) k none ≡ get_or xs last none
  without-same none below =
      get_or-take last (set xs k (get_or xs last d)) k none below
      ∙ get_or-set_same xs k (get_or xs last d) none inside
      ∙ get_or_default xs last d none (omega arith)

  pub without-other : (none : X) (j : ℕ) → j ≢ k → j ≢ last → get_or (without xs k last d) j none ≡ get_or xs j none
  without-other none j other before =
      elim (cases_lt j last) [
        | inl below ↦ get_or-take last (set xs k (get_or xs last d)) j none below ∙ get_or-set_other xs k j (get_or xs last d) none other
        | inr past ↦ get_or_past (without xs k last d) j none (omega (arith, length-without)) ∙ sym (get_or_past xs j none (omega arith))
      ]

-- the slots of the transactions, where t ended and the one in the last slot has its slot
abbrev pub moved_to : ℕ → List ℕ → ℕ → ℕ → List ℕ
moved_to ended index t moved = set (set index moved (slot_of ended index t)) t ended

module _ {ended : ℕ} (index numbers : List ℕ) (placed : IsPlaced ended index numbers) (t last moved : ℕ) (counted : last + 1 ≡ length numbers) (inside : slot_of ended index t < length numbers) (moved_is : get_or numbers last 0 ≡ moved) where
  moved-back : slot_of ended index moved ≡ last
  moved-back = ap (slot_of ended index) (sym moved_is) ∙ placed.back last (omega arith)

  -- the last slot is moved, where it isn't that of t
  moved-other : slot_of ended index t < last → moved ≢ t
  moved-other below e = absurd (omega (arith, moved-back, ap (slot_of ended index) e))

  moved-begun : moved < length index
  moved-begun = slot-began 0 numbers index numbers placed refl moved (omega (arith, moved-back))

  begun : t < length index
  begun = slot-began 0 numbers index numbers placed refl t inside

  pub slot-ended : slot_of ended (moved_to ended index t moved) t ≡ ended
  slot-ended = get_or-set_same (set index moved (slot_of ended index t)) t ended ended (omega (arith, length-set index moved (slot_of ended index t), begun))

  pub slot-moved : moved ≢ t → slot_of ended (moved_to ended index t moved) moved ≡ slot_of ended index t
  slot-moved other =
      get_or-set_other (set index moved (slot_of ended index t)) t moved ended ended other
      ∙ get_or-set_same index moved (slot_of ended index t) ended moved-begun

  pub slot-others : (u : ℕ) → u ≢ t → u ≢ moved → slot_of ended (moved_to ended index t moved) u ≡ slot_of ended index u
  slot-others u other unmoved =
      get_or-set_other (set index moved (slot_of ended index t)) t u ended ended other
      ∙ get_or-set_other index moved u (slot_of ended index t) ended unmoved

  -- the slot of another than t and the one in the last slot is neither
  apart : (u : ℕ) → u ≢ t → u ≢ moved → (slot_of ended index u ≢ slot_of ended index t) × (slot_of ended index u ≢ last)
  apart u other unmoved = (
    other-slot 0 numbers index numbers placed refl t u inside other,
    λ e. other-slot 0 numbers index numbers placed refl moved u (omega (arith, moved-back)) unmoved (e ∙ sym moved-back),
  )

  -- the one in the last slot is another than t, where its slot isn't
  below-last : moved ≢ t → slot_of ended index t < last
  below-last other =
      elim (cases_eq (slot_of ended index t) last) [
        | inl here ↦ absurd (other (sym moved_is ∙ ap (λ k. get_or numbers k 0) (sym here) ∙ placed.same t (λ e. omega (arith, placed.few))))
        | inr past ↦ omega arith
      ]

  module _ {X : Type 0} (none d : X) (held : List X) (same_length : length held ≡ length numbers) where
    -- what the slots hold then
    pub looked-ended : looked none (without held (slot_of ended index t) last d) (moved_to ended index t moved) ≡ set (looked none held index) t none
    looked-ended =
        each-same ended none _ (moved_to ended index t moved) (set (looked none held index) t none)
        (omega (arith, placed.few, length-without held (slot_of ended index t) last d (omega arith) (omega arith)))
        (length-set (set index moved (slot_of ended index t)) t ended ∙ length-set index moved (slot_of ended index t) ∙ sym (length-set (looked none held index) t none ∙ len-looked none held index numbers placed same_length))
        (λ u _. elim (cases_eq u t) [
          | inl here ↦
              ap (λ v. get_or (without held (slot_of ended index t) last d) (slot_of ended (moved_to ended index t moved) v) none) here
              ∙ ap (λ k. get_or (without held (slot_of ended index t) last d) k none) slot-ended
              ∙ get_or_past (without held (slot_of ended index t) last d) ended none (omega (arith, placed.few, length-without held (slot_of ended index t) last d (omega arith) (omega arith)))
              ∙ sym (ap (λ v. get_or (set (looked none held index) t none) v none) here
              ∙ get_or-set_same (looked none held index) t none none (omega (arith, begun, len-looked none held index numbers placed same_length)))
          | inr other ↦ another u other ∙ sym (get_or-set_other (looked none held index) t u none none other ∙ at ended none held index u (omega (arith, placed.few)))
        ])
      where
        another : (u : ℕ) → u ≢ t → get_or (without held (slot_of ended index t) last d) (slot_of ended (moved_to ended index t moved) u) none ≡ get_or held (slot_of ended index u) none
        another u other =
            elim (cases_eq u moved) [
              | inl here ↦
                  let differs : moved ≢ t = λ e. other (here ∙ e) in
                  ap (λ v. get_or (without held (slot_of ended index t) last d) (slot_of ended (moved_to ended index t moved) v) none) here
                  ∙ ap (λ k. get_or (without held (slot_of ended index t) last d) k none) (slot-moved differs)
                  ∙ without-same held (slot_of ended index t) last d (omega arith) (omega arith) none (below-last differs)
                  ∙ ap (λ k. get_or held k none) (sym (ap (slot_of ended index) here ∙ moved-back))
              | inr unmoved ↦
                  ap (λ k. get_or (without held (slot_of ended index t) last d) k none) (slot-others u other unmoved)
                  ∙ without-other held (slot_of ended index t) last d (omega arith) (omega arith) none (slot_of ended index u) (apart u other unmoved).0 (apart u other unmoved).1
            ]

  -- and each has its slot still
  pub placed-ended : (d : ℕ) → IsPlaced ended (moved_to ended index t moved) (without numbers (slot_of ended index t) last d)
  placed-ended d = record {
    few = omega (arith, len, placed.few);
    slot = λ u slotted. elim (cases_eq u moved) [
      | inl here ↦ omega (arith, len, ap (slot_of ended (moved_to ended index t moved)) here ∙ slot-moved (differs u slotted here), below-last (differs u slotted here))
      | inr unmoved ↦
          let same_slot = slot-others u (began u slotted) unmoved in
          omega (arith, len, same_slot, placed.slot u (λ e. slotted (same_slot ∙ e)), (apart u (began u slotted) unmoved).1)
    ];
    same = λ u slotted. elim (cases_eq u moved) [
      | inl here ↦
          ap (λ v. get_or (without numbers (slot_of ended index t) last d) (slot_of ended (moved_to ended index t moved) v) 0) here
          ∙ ap (λ k. get_or (without numbers (slot_of ended index t) last d) k 0) (slot-moved (differs u slotted here))
          ∙ without-same numbers (slot_of ended index t) last d counted inside 0 (below-last (differs u slotted here))
          ∙ moved_is ∙ sym here
      | inr unmoved ↦
          let same_slot = slot-others u (began u slotted) unmoved in
          ap (λ k. get_or (without numbers (slot_of ended index t) last d) k 0) same_slot
          ∙ without-other numbers (slot_of ended index t) last d counted inside 0 (slot_of ended index u) (apart u (began u slotted) unmoved).0 (apart u (began u slotted) unmoved).1
          ∙ placed.same u (λ e. slotted (same_slot ∙ e))
    ];
    back = λ k below. elim (cases_eq k (slot_of ended index t)) [
      | inl here ↦
          let before : slot_of ended index t < last = omega (arith, len) in
          ap (λ j. slot_of ended (moved_to ended index t moved) (get_or (without numbers (slot_of ended index t) last d) j 0)) here
          ∙ ap (slot_of ended (moved_to ended index t moved)) (without-same numbers (slot_of ended index t) last d counted inside 0 before ∙ moved_is)
          ∙ slot-moved (moved-other before) ∙ sym here
      | inr other ↦
          let number_is = without-other numbers (slot_of ended index t) last d counted inside 0 k other (λ e. omega (arith, len)) in
          let back = placed.back k (omega (arith, len)) in
          ap (slot_of ended (moved_to ended index t moved)) number_is
          ∙ slot-others (get_or numbers k 0) (λ e. other (sym back ∙ ap (slot_of ended index) e)) (λ e. omega (arith, len, sym back ∙ ap (slot_of ended index) e, moved-back))
          ∙ back
    ];
  }
    where
      len : length (without numbers (slot_of ended index t) last d) ≡ last
      len = length-without numbers (slot_of ended index t) last d counted inside

      began : (u : ℕ) → slot_of ended (moved_to ended index t moved) u ≢ ended → u ≢ t
      began u slotted e = slotted (ap (slot_of ended (moved_to ended index t moved)) e ∙ slot-ended)

      differs : (u : ℕ) → slot_of ended (moved_to ended index t moved) u ≢ ended → u ≡ moved → moved ≢ t
      differs u slotted here e = began u slotted (here ∙ e)
