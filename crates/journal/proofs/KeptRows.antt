-- What a file keeps at a place, after a row is put or freed.
use Rattle.std.proofs.Common.{◌≡◌, ℕ, ◌+◌, ◌<◌, ◌≤◌, List, Option, Some, None, false, true, refl, sym, ap, subst, ◌∙◌, inl, inr, arith, Bool, if◌then◌else◌, nat_lt}
use Rattle.std.specs.Prelude.{◌&&◌}
use Rattle.std.specs.Option.{option_or}
use Rattle.std.proofs.lemmas.Option.{same_Some}
use Rattle.std.proofs.lemmas.Bool.{cases_eq, le-ltb, lt-ltb, ltb-false, ltb-true}
use Rattle.sqlite_value.specs.Order.{Row}
use Rattle.journal.specs.declared.numbers.Numbers.{Numbers}
use Rattle.journal.specs.declared.outcome_row.KeptOutcome.{KeptOutcome}
use Rattle.journal.specs.declared.place_row.PlaceRow.{PlaceRow}
use Rattle.journal.specs.declared.place_row.PlaceRow.TheVariants.{Pointer, Whole}
use Rattle.journal.specs.Numbers.{numbers_in}
use Rattle.journal.specs.OutcomeIndex.{awaiting_from, is_placed, kept_from, kept_row, last_number, last_or_led, led_to, outcome_numbered, placed}
use Rattle.journal.specs.Outcomes.{staying_from}
use Rattle.journal.specs.Swept.{place_number}
use Rattle.journal.proofs.LastNumbers.{last-is, last-none, last-of-both, same-last, same-placed}
use Rattle.journal.proofs.PlacedRows.{numbered-number}

-- ---- what is kept, by the numbers

pub kept-known : (rows : List Row) (m : Numbers) (p : ℕ) → m ≡ numbers_in rows → kept_row rows p ≡ kept_from rows (awaiting_from m) m.awaiting p
unfolding kept_row
kept-known rows m p is = ap (λ (k : Numbers). kept_from rows (awaiting_from k) k.awaiting p) (sym is)

-- ---- what is kept, by whether one that has the place awaits

pub kept-last : (rows : List Row) (base count p n : ℕ) → last_number rows p base count ≡ Some n → kept_from rows base count p ≡ outcome_numbered rows n
unfolding kept_from
kept-last rows base count p n is = ap (last_or_led rows base p) is

pub kept-led : (rows : List Row) (base count p : ℕ) → last_number rows p base count ≡ None → kept_from rows base count p ≡ led_to rows base p (placed rows p)
unfolding kept_from
kept-led rows base count p none = ap (last_or_led rows base p) none

-- of two counts that have the same last one
pub same-count : (rows : List Row) (base p more count : ℕ) → last_number rows p base more ≡ last_number rows p base count → kept_from rows base more p ≡ kept_from rows base count p
unfolding kept_from
same-count rows base p more count same = ap (last_or_led rows base p) same

-- one or the other
pub last-cases : (P : Type 0) (last : Option ℕ) → (last ≡ None → P) → ((n : ℕ) → last ≡ Some n → P) → P
last-cases P None none some = none refl
last-cases P (Some n) none some = some n refl

-- ---- where a pointer leads

-- to one before those that await, whose place it is
pub leads : (rows : List Row) (base p n : ℕ) → n < base → is_placed rows p n ≡ true → led_to rows base p (Some (Pointer n)) ≡ outcome_numbered rows n
leads rows base p n before here = rw (lt-ltb n base before, here) refl

-- else nowhere
pub leads-nowhere : (rows : List Row) (base p n : ℕ) → is_placed rows p n ≡ false → led_to rows base p (Some (Pointer n)) ≡ None
leads-nowhere rows base p n elsewhere = rw elsewhere (by (nat_lt n base))
  where
    by : (b : Bool) → (if b && false then outcome_numbered rows n else None) ≡ None
    by true = refl
    by false = refl

pub leads-not-yet : (rows : List Row) (base p n : ℕ) → base ≤ n → led_to rows base p (Some (Pointer n)) ≡ None
leads-not-yet rows base p n after = rw (le-ltb n base after) refl

-- ---- rows change that aren't looked at

module _ (old new : List Row) (base : ℕ) (p : ℕ) where
  same-led : ((n : ℕ) → n < base → outcome_numbered new n ≡ outcome_numbered old n) → (it : Option PlaceRow) → led_to new base p it ≡ led_to old base p it
  same-led same None = refl
  same-led same (Some (Whole o)) = refl
  same-led same (Some (Pointer n)) = by (nat_lt n base) refl
    where
      by : (b : Bool) → nat_lt n base ≡ b → (if nat_lt n base && is_placed new p n then outcome_numbered new n else None) ≡ (if nat_lt n base && is_placed old p n then outcome_numbered old n else None)
      by true low = let alike = same n (ltb-true n base low) in rw (low, same-placed old new p n alike, alike) refl
      by false low = rw low refl

  -- the outcomes are as they were, and so is the row at the place, unless one that has the place awaits
  pub same-kept : (count : ℕ) → ((n : ℕ) → n < base + count → outcome_numbered new n ≡ outcome_numbered old n) → (last_number old p base count ≡ None → placed new p ≡ placed old p)
      → kept_from new base count p ≡ kept_from old base count p
  same-kept count same at-place =
      let last = same-last old new p base count (λ n from to. same n to) in
      last-cases (kept_from new base count p ≡ kept_from old base count p) (last_number old p base count)
      (λ none. kept-led new base count p (last ∙ none)
      ∙ ap (led_to new base p) (at-place none)
      ∙ same-led (λ n low. same n (omega (arith, low))) (placed old p)
      ∙ sym (kept-led old base count p none))
      (λ n is. kept-last new base count p n (last ∙ is)
      ∙ same n (let to = (last-is old p base count n is).to in to)
      ∙ sym (kept-last old base count p n is))

-- ---- rows are freed

-- one whose number is before the first that stays doesn't stay
module _ (first : ℕ) where
  pub gone : (k : Option KeptOutcome) → ((o : KeptOutcome) → k ≡ Some o → o.number < first) → staying_from first k ≡ None
  gone None low = refl
  gone (Some o) low = rw (lt-ltb o.number first (low o refl)) refl

  numbered-gone : (rows : List Row) (n : ℕ) → n < first → staying_from first (outcome_numbered rows n) ≡ None
  numbered-gone rows n low = gone (outcome_numbered rows n) (λ o is. let number = numbered-number rows n o is in omega (arith, low, number))

  led-gone : (rows : List Row) (base p n : ℕ) → n < first → staying_from first (led_to rows base p (Some (Pointer n))) ≡ None
  led-gone rows base p n low = by (nat_lt n base && is_placed rows p n)
    where
      by : (b : Bool) → staying_from first (if b then outcome_numbered rows n else None) ≡ None
      by true = numbered-gone rows n low
      by false = refl

  -- the row at a place says one that doesn't
  pub place-gone : (rows : List Row) (base p : ℕ) (it : PlaceRow) → place_number it < first → staying_from first (led_to rows base p (Some it)) ≡ None
  place-gone rows base p (Whole o) low = gone (Some o) (λ k is. let same = same_Some o k is in subst (λ (x : KeptOutcome). x.number < first) same low)
  place-gone rows base p (Pointer n) low = led-gone rows base p n low

  -- the row of an outcome is freed
  module _ (old new : List Row) (base p n : ℕ) (low : n < first) (same : (k : ℕ) → (k ≡ n → ⊥) → outcome_numbered new k ≡ outcome_numbered old k) where
    led-freed : (it : Option PlaceRow) → staying_from first (led_to new base p it) ≡ staying_from first (led_to old base p it)
    led-freed None = refl
    led-freed (Some (Whole o)) = refl
    led-freed (Some (Pointer k)) = elim (cases_eq k n) [
      | inl is ↦ led-gone new base p k (omega (arith, low, is)) ∙ sym (led-gone old base p k (omega (arith, low, is)))
      | inr differs ↦ let alike = same k differs in ap (staying_from first) (rw (same-placed old new p k alike, alike) refl)
    ]

    pub number-freed : (count : ℕ) → n < base → placed new p ≡ placed old p → staying_from first (kept_from new base count p) ≡ staying_from first (kept_from old base count p)
    number-freed count before at-place =
        let last = same-last old new p base count (λ k from to. same k (λ is. omega (arith, before, from, is))) in
        last-cases (staying_from first (kept_from new base count p) ≡ staying_from first (kept_from old base count p)) (last_number old p base count)
        (λ none. ap (staying_from first) (kept-led new base count p (last ∙ none) ∙ ap (led_to new base p) at-place)
        ∙ led-freed (placed old p)
        ∙ ap (staying_from first) (sym (kept-led old base count p none)))
        (λ k is. ap (staying_from first) (kept-last new base count p k (last ∙ is)
        ∙ same k (λ same'. let from = (last-is old p base count k is).from in omega (arith, before, from, same'))
        ∙ sym (kept-last old base count p k is)))

  -- the row at a place is freed
  module _ (old new : List Row) (base p : ℕ) (it : PlaceRow) (low : place_number it < first) (same : (k : ℕ) → outcome_numbered new k ≡ outcome_numbered old k) where
    pub place-freed : (count : ℕ) → placed old p ≡ Some it → placed new p ≡ None → staying_from first (kept_from new base count p) ≡ staying_from first (kept_from old base count p)
    place-freed count there none =
        let last = same-last old new p base count (λ k from to. same k) in
        last-cases (staying_from first (kept_from new base count p) ≡ staying_from first (kept_from old base count p)) (last_number old p base count)
        (λ no. ap (staying_from first) (kept-led new base count p (last ∙ no) ∙ ap (led_to new base p) none)
        ∙ sym (ap (staying_from first) (kept-led old base count p no ∙ ap (led_to old base p) there) ∙ place-gone old base p it low))
        (λ k is. ap (staying_from first) (kept-last new base count p k (last ∙ is) ∙ same k ∙ sym (kept-last old base count p k is)))

-- ---- fewer await, whose pointers are put

module _ (rows : List Row) (base a b p : ℕ) (put : (n : ℕ) → last_number rows p base a ≡ Some n → placed rows p ≡ Some (Pointer n)) where
  led-later : last_number rows p base a ≡ None → (it : Option PlaceRow) → led_to rows base p it ≡ led_to rows (base + a) p it
  led-later none None = refl
  led-later none (Some (Whole o)) = refl
  led-later none (Some (Pointer n)) = by (nat_lt n base) refl (nat_lt n (base + a)) refl
    where
      by : (x : Bool) → nat_lt n base ≡ x → (y : Bool) → nat_lt n (base + a) ≡ y
          → (if nat_lt n base && is_placed rows p n then outcome_numbered rows n else None) ≡ (if nat_lt n (base + a) && is_placed rows p n then outcome_numbered rows n else None)
      by true low true lower = rw (low, lower) refl
      by true low false lower = absurd (let one = ltb-true n base low in let two = ltb-false n (base + a) lower in omega (arith, one, two))
      by false low true lower =
          let elsewhere = last-none rows p base a n none (ltb-false n base low) (ltb-true n (base + a) lower) in
          rw (low, lower, elsewhere) refl
      by false low false lower = rw (low, lower) refl

  pub fewer-await : kept_from rows base (a + b) p ≡ kept_from rows (base + a) b p
  fewer-await =
      let both = last-of-both rows p base a b in
      last-cases (kept_from rows base (a + b) p ≡ kept_from rows (base + a) b p) (last_number rows p (base + a) b)
      (λ none. let rest : last_number rows p base (a + b) ≡ last_number rows p base a = both ∙ ap (λ o. option_or o (last_number rows p base a)) none in
      last-cases (kept_from rows base (a + b) p ≡ kept_from rows (base + a) b p) (last_number rows p base a)
      (λ no. kept-led rows base (a + b) p (rest ∙ no) ∙ led-later no (placed rows p) ∙ sym (kept-led rows (base + a) b p none))
      (λ n is. let last = last-is rows p base a n is in
      kept-last rows base (a + b) p n (rest ∙ is)
      ∙ sym (kept-led rows (base + a) b p none ∙ ap (led_to rows (base + a) p) (put n is) ∙ leads rows (base + a) p n last.to last.here)))
      (λ n is. kept-last rows base (a + b) p n (both ∙ ap (λ o. option_or o (last_number rows p base a)) is) ∙ sym (kept-last rows (base + a) b p n is))
