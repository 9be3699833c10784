-- Slots after those that were cut off: t is open, and its place is t - cut.
use Rattle.std.proofs.Common.{◌≡◌, ◌≢◌, ℕ, ◌+◌, ◌-◌, ◌<◌, ◌≤◌, List, ◌++◌, length, set, get_or, take, drop, replicate, append_assoc, sym, ap, ◌∙◌, subst, inl, inr, arith}
use Rattle.std.proofs.lemmas.Bool.{cases_lt}
use Rattle.std.proofs.lemmas.List.{get_or_append_left, get_or-append_right, get_or-replicate, set-append_right, length-append, length-replicate, length-set, replicate-append-replicate, take-append-drop}
use Rattle.open_transactions.specs.Index.{ended}

module _ (cut : ℕ) (kept : List ℕ) where
  front-long : length (replicate {A = ℕ} cut ended) ≡ cut
  front-long = length-replicate {A = ℕ} cut ended

  -- what is cut off besides, which ended, is still shown
  pub cut-shows : (count : ℕ) → take count kept ≡ replicate count ended → replicate {A = ℕ} (cut + count) ended ++ drop count kept ≡ replicate {A = ℕ} cut ended ++ kept
  cut-shows count front =
      ap (λ first. first ++ drop count kept) (sym (replicate-append-replicate {A = ℕ} cut count ended))
      ∙ append_assoc (replicate {A = ℕ} cut ended) (replicate {A = ℕ} count ended) (drop count kept)
      ∙ ap (λ first. replicate {A = ℕ} cut ended ++ (first ++ drop count kept)) (sym front)
      ∙ ap (λ all. replicate {A = ℕ} cut ended ++ all) (take-append-drop count kept)

  -- each that was cut off or ended in front is shown as ended
  pub ended-shows : (count : ℕ) → take count kept ≡ replicate count ended → (t : ℕ) → t < cut + count → get_or (replicate {A = ℕ} cut ended ++ kept) t ended ≡ ended
  ended-shows count front t before =
      ap (λ shown. get_or shown t ended) (sym (cut-shows count front))
      ∙ get_or_append_left (replicate {A = ℕ} (cut + count) ended) (drop count kept) ended t (omega (arith, before, length-replicate {A = ℕ} (cut + count) ended))
      ∙ get_or-replicate {A = ℕ} (cut + count) t ended ended before

  -- a write leaves as many
  pub set-begun : (place slot : ℕ) → length (replicate {A = ℕ} cut ended ++ set kept place slot) ≡ length (replicate {A = ℕ} cut ended ++ kept)
  set-begun place slot =
      length-append (replicate {A = ℕ} cut ended) (set kept place slot)
      ∙ ap (λ rest. length (replicate {A = ℕ} cut ended) + rest) (length-set kept place slot)
      ∙ sym (length-append (replicate {A = ℕ} cut ended) kept)

  module _ (t : ℕ) (shown : List ℕ) (shown_is : replicate {A = ℕ} cut ended ++ kept ≡ shown) (slotted : get_or shown t ended ≢ ended) where
    slotted_is : get_or (replicate {A = ℕ} cut ended ++ kept) t ended ≢ ended
    slotted_is = subst (λ s. get_or s t ended ≢ ended) (sym shown_is) slotted

    -- it isn't before them
    pub open-behind : cut ≤ t
    open-behind =
        elim (cases_lt t cut) [
          | inl before ↦
              absurd (slotted_is (get_or_append_left (replicate {A = ℕ} cut ended) kept ended t (omega (arith, before, front-long)) ∙ get_or-replicate {A = ℕ} cut t ended ended before))
          | inr behind ↦ behind
        ]

    -- and has its slot at its place
    pub open-slotted : get_or kept (t - cut) ended ≢ ended
    open-slotted over = slotted_is (get_or-append_right (replicate {A = ℕ} cut ended) kept cut t ended front-long open-behind ∙ over)

    -- which may be written
    pub set-shows : (slot : ℕ) → replicate {A = ℕ} cut ended ++ set kept (t - cut) slot ≡ set shown t slot
    set-shows slot = sym (set-append_right (replicate {A = ℕ} cut ended) kept cut t slot front-long open-behind) ∙ ap (λ s. set s t slot) shown_is
