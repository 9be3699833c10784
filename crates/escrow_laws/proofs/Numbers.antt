-- Operations with bounds are numeric.
use Rattle.std.proofs.Common.{◌≡◌, ℕ, zero, suc, ◌+◌, ◌-◌, ◌<◌, ◌≤◌, ◌&&◌, Option, Some, None, IsSome, refl, sym, ◌∙◌, inl, inr, arith}
use Rattle.std.specs.Prelude.{nat_le, slice_get}
use Rattle.std.proofs.lemmas.Bool.{cases_Bool, false≢true, and_parts, and_left, and_right, leb-true, le-leb, lt-leb}
use Rattle.std.proofs.lemmas.Option.{none-some}
use Rattle.escrow_laws.specs.declared.bounded.Bounded.{Bounded}
use Rattle.escrow_laws.specs.Bounds.{moved, moved_by, gives_of, takes_of, IsWithinBounds, nowhere}
use Rattle.escrow_laws.specs.Laws.{BoundsAreNumeric}

-- the bounds between which an operation is legal
pub within : (b : Bounded) (s : ℕ) → IsSome (moved b s) → (b.low ≤ s) × (s ≤ b.high)
within b s h = elim (cases_Bool (nat_le b.low s && nat_le s b.high)) [
  | inl inside ↦ let parts = and_parts (nat_le b.low s) (nat_le s b.high) inside in (leb-true b.low s parts.0, leb-true s b.high parts.1)
  | inr outside ↦ absurd (false≢true (rw outside at h))
]

pub inside_is : (b : Bounded) (s : ℕ) → b.low ≤ s → s ≤ b.high → moved b s ≡ Some (s + b.gives - b.takes)
inside_is b s low high = rw (le-leb b.low s low, le-leb s b.high high) refl

-- outside of them it is illegal
pub moved-under : (b : Bounded) (s : ℕ) → s < b.low → moved b s ≡ None
moved-under b s under = rw (and_left (nat_le b.low s) (nat_le s b.high) (lt-leb b.low s under)) refl

pub moved-over : (b : Bounded) (s : ℕ) → b.high < s → moved b s ≡ None
moved-over b s over = rw (and_right (nat_le b.low s) (nat_le s b.high) (lt-leb s b.high over)) refl

-- what is legal nowhere leads nowhere
pub moved-nowhere : (s : ℕ) → moved nowhere s ≡ None
moved-nowhere zero = moved-under nowhere zero (omega arith)
moved-nowhere (suc s) = moved-over nowhere (suc s) (omega arith)

-- so none is legal above the top
pub none-above : (found : Option Bounded) (top s : ℕ) → ((b : Bounded) → found ≡ Some b → IsWithinBounds top b) → top < s → moved_by found s ≡ None
none-above None top s fits above = refl
none-above (Some b) top s fits above = let most = (fits b refl).legal in moved-over b s (omega (arith, most, above))

-- how far it moves
pub moves_by : (b : Bounded) (s t : ℕ) → b.takes ≤ b.low → moved b s ≡ Some t → t + b.takes ≡ s + b.gives
moves_by b s t fits is =
    let bounds = within b s (rw is refl) in
    let same : Some t ≡ Some (s + b.gives - b.takes) = sym is ∙ inside_is b s bounds.0 bounds.1 in
    let equal : t ≡ s + b.gives - b.takes = cc in
    omega (arith, equal, bounds.0, fits)

pub by_found : (found : Option Bounded) (s t : ℕ) → ((b : Bounded) → found ≡ Some b → b.takes ≤ b.low) → moved_by found s ≡ Some t → t + takes_of found ≡ s + gives_of found
by_found None s t fits is = absurd (none-some t is)
by_found (Some b) s t fits is = moves_by b s t (fits b refl) is

between_found : (found : Option Bounded) (low s high : ℕ) → low ≤ s → s ≤ high → IsSome (moved_by found low) → IsSome (moved_by found high) → IsSome (moved_by found s)
between_found None low s high above under at_low at_high = at_low
between_found (Some b) low s high above under at_low at_high =
    let lower = within b low at_low in
    let upper = within b high at_high in
    rw (inside_is b s (omega (arith, lower.0, above)) (omega (arith, upper.1, under))) refl

pub bounds_numeric : BoundsAreNumeric
bounds_numeric = λ T top ops bounds. record {
  moves = λ s k t step. by_found (slice_get ops k) s t (λ b found. (bounds.within k b found).enough) (sym (bounds.steps s k) ∙ step);
  between = λ low s high k above under at_low at_high.
      rw (bounds.steps s k) (between_found (slice_get ops k) low s high above under (rw (bounds.steps low k) at at_low) (rw (bounds.steps high k) at at_high));
}
