-- What the mark of a transaction says of it, and which numbers fit.
use Rattle.std.proofs.Common.{◌≡◌, ◌↔◌, ℕ, ◌+◌, ◌-◌, ◌<◌, ◌≤◌, List, [], ◌∷◌, Some, ap, ◌∙◌, arith}
use Rattle.std.specs.Prelude.{slice_get}
use Rattle.type_table.specs.Table.{Table, next}
use Rattle.type_table.specs.Run.{run, IsLegal}
use Rattle.type_table.proofs.Legal.{some_state, is_there}
use Rattle.escrow_laws.specs.Bounds.{moved_by, amounts_of, IsWithinBounds, AreBounds}
use Rattle.escrow_laws.specs.Firm.{IsIdleFrom, IsFirm}
use Rattle.escrow_laws.specs.Marks.{mark_after, mark_of, FitsIn, fallen_of, risen_of, most_needed, least_limit}
use Rattle.escrow_laws.specs.Laws.{MarksAreExact, ExtremesTellFirm}
use Rattle.escrow_laws.specs.declared.bounded.Bounded.{Bounded}
use Rattle.escrow_laws.specs.declared.mark.Mark.{Mark}
use Rattle.escrow_laws.specs.declared.mark.OpenMark.{OpenMark}
use Rattle.escrow_laws.proofs.Numbers.{within, inside_is}
use Rattle.escrow_manager.specs.Marks.{IsSmall}
use Rattle.escrow_manager.specs.Totals.{totals_of, totals_with, HasShortSums}
use Rattle.escrow_manager.specs.Kept.{AreMarksOf}
use Rattle.escrow_manager.specs.declared.totals.Totals.{Totals}
use Rattle.escrow_manager.proofs.Marking.{marks-all}
use Rattle.escrow_manager.proofs.Summing.{limit-least}

-- ---- one transaction

module _ (T : Table) (top base : ℕ) (ops : List Bounded) (bounds : AreBounds T top ops) where
  -- where the operations end
  pub end-told : MarksAreExact → (ks : List ℕ) → IsLegal T (Some base) ks → run T (Some base) ks ≡ Some (base + (mark_of top ops ks).above - (mark_of top ops ks).fall)
  end-told exact ks legal =
      let mark = mark_of top ops ks in
      let end = some_state (run T (Some base) ks) legal in
      let ends = (exact T top ops ks bounds).ends base end.0 end.1 in
      let here : end.0 ≡ base + mark.above - mark.fall = omega (arith, ends) in
      end.1 ∙ ap (λ n. Some n) here

  -- and whether another is legal at a number
  pub step-told : (s k : ℕ) (b : Bounded) → slice_get ops k ≡ Some b → ((b.low ≤ s) × (s ≤ b.high)) ↔ IsLegal T (Some s) (k ∷ [])
  step-told s k b found =
      let step : next T s k ≡ moved_by (Some b) s = bounds.steps s k ∙ ap (λ o. moved_by o s) found in (
        λ between. is_there (next T s k) (s + b.gives - b.takes) (step ∙ inside_is b s between.0 between.1),
        λ legal. within b s (rw step at legal),
      )

-- ---- one more operation

pub more-small : (top base s : ℕ) (mark : Mark) (b : Bounded) → base ≤ top → FitsIn top base mark → IsWithinBounds top b → b.low ≤ s → s ≤ b.high → IsSmall top mark b
more-small top base s mark b inside fits within low high =
    let down = fits.down in
    let up = fits.up in
    let end = fits.end in
    let least = fits.least in
    let most = fits.most in
    let enough = within.enough in
    let legal = within.legal in
    let room = within.room in
    record {
      enough = enough;
      low = omega arith;
      gives = omega arith;
      fall = omega arith;
      rise = omega arith;
      above = omega arith;
      floor = omega arith;
      ceiling = most;
    }

-- ---- all of them

-- together they take no more than there is, and give no more than there is room for
pub sums-told : ExtremesTellFirm → (T : Table) (top base m : ℕ) (ops : List Bounded) (own : ℕ → List ℕ) (marks : List OpenMark) → AreBounds T top ops → base ≤ top → AreMarksOf top ops own marks → IsIdleFrom m own →
    IsFirm T (amounts_of ops) base own → (fallen_of marks + most_needed marks ≤ base) × (base + risen_of marks < least_limit top marks)
sums-told tell T top base m ops own marks bounds inside known idle firm = (tell T top base m ops own marks bounds inside (marks-all top ops own m marks known idle)).1 firm

-- so the sums are small, and the extremes
pub record AreSmall (top : ℕ) (marks : List OpenMark) : Type 0 where
  pub fallen : fallen_of marks ≤ top
  pub risen : risen_of marks ≤ top
  pub needed : most_needed marks ≤ top
  pub limit : least_limit top marks ≤ top + 1

pub sums-small : ExtremesTellFirm → (T : Table) (top base m : ℕ) (ops : List Bounded) (own : ℕ → List ℕ) (marks : List OpenMark) → AreBounds T top ops → base ≤ top → AreMarksOf top ops own marks → IsIdleFrom m own →
    IsFirm T (amounts_of ops) base own → AreSmall top marks
sums-small tell T top base m ops own marks bounds inside known idle firm =
    let told = sums-told tell T top base m ops own marks bounds inside known idle firm in
    let low = told.0 in
    let high = told.1 in
    let limit = limit-least top marks in
    record { fallen = omega (arith, low, inside); risen = omega (arith, high, limit); needed = omega (arith, low, inside); limit = limit }

-- a mark that fits is short
pub fits-short : (top base : ℕ) (mark : Mark) → top ≤ 4294967295 → base ≤ top → FitsIn top base mark → HasShortSums mark
fits-short top base mark most inside fits =
    let down = fits.down in
    let up = fits.up in
    let last = fits.most in
    record { fall = omega (arith, down, inside, most); rise = omega (arith, up, most); ceiling = omega (arith, last, most) }

-- so is a small one
pub small-short : (top : ℕ) (mark : Mark) (b : Bounded) → top ≤ 4294967295 → IsSmall top mark b → HasShortSums mark
small-short top mark b most one =
    let fall = one.fall in
    let rise = one.rise in
    let ceiling = one.ceiling in
    record { fall = omega (arith, fall, most); rise = omega (arith, rise, most); ceiling = omega (arith, ceiling, most) }

-- also with one more operation
pub more-short : (top : ℕ) (old new : Mark) (b : Bounded) → top ≤ 4294967295 → IsSmall top old b → new ≡ mark_after old b → HasShortSums new
more-short top old new b most one is =
    let low = one.low in
    let enough = one.enough in
    let gives = one.gives in
    let fall = one.fall in
    let rise = one.rise in
    let high = one.above in
    let ceiling = one.ceiling in
    let new_fall = ap (λ (x : Mark). x.fall) is in
    let new_rise = ap (λ (x : Mark). x.rise) is in
    let new_ceiling = ap (λ (x : Mark). x.ceiling) is in
    record {
      fall = omega (arith, most, low, enough, fall, new_fall);
      rise = omega (arith, most, gives, rise, high, new_rise);
      ceiling = omega (arith, most, ceiling, new_ceiling);
    }

-- ---- the totals with another mark

-- they stay small
pub with-small : (top : ℕ) (marks : List OpenMark) (totals after : Totals) (old new : Mark) (b : Bounded) → top ≤ 4294967295 → totals ≡ totals_of top marks → AreSmall top marks → IsSmall top old b → new ≡ mark_after old b →
    after ≡ totals_with totals old new → (after.fallen < 17179869184) × (after.risen < 17179869184) × (after.needed < 17179869184)
with-small top marks totals after old new b most summed all one is made =
    let low = one.low in
    let enough = one.enough in
    let gives = one.gives in
    let fall = one.fall in
    let rise = one.rise in
    let high = one.above in
    let floor = one.floor in
    let falls = all.fallen in
    let rises = all.risen in
    let needs = all.needed in
    let fallen = ap (λ (x : Totals). x.fallen) summed in
    let risen = ap (λ (x : Totals). x.risen) summed in
    let needed = ap (λ (x : Totals). x.needed) summed in
    let new_fall = ap (λ (x : Mark). x.fall) is in
    let new_rise = ap (λ (x : Mark). x.rise) is in
    let new_floor = ap (λ (x : Mark). x.floor) is in
    let after_fallen = ap (λ (x : Totals). x.fallen) made in
    let after_risen = ap (λ (x : Totals). x.risen) made in
    let after_needed = ap (λ (x : Totals). x.needed) made in (
      omega (arith, most, low, enough, fall, falls, fallen, new_fall, after_fallen),
      omega (arith, most, gives, rise, high, rises, risen, new_rise, after_risen),
      omega (arith, most, low, fall, floor, needs, needed, new_floor, after_needed),
    )
