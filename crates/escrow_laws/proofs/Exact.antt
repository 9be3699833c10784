-- What is kept of operations is exact.
use Rattle.std.proofs.Common.{◌≡◌, ◌↔◌, ℕ, ◌+◌, ◌-◌, ◌<◌, ◌≤◌, List, [], ◌∷◌, Option, Some, None, refl, sym, ap, ◌∙◌, arith}
use Rattle.std.specs.Prelude.{max, slice_get}
use Rattle.type_table.specs.Table.{Table, next}
use Rattle.type_table.specs.Run.{run, IsLegal}
use Rattle.type_table.proofs.Legal.{is_there, nothing_legal}
use Rattle.escrow_laws.specs.Amounts.{fall, rise}
use Rattle.escrow_laws.specs.declared.bounded.Bounded.{Bounded}
use Rattle.escrow_laws.specs.declared.mark.Mark.{Mark}
use Rattle.escrow_laws.specs.Bounds.{moved, moved_by, gives_of, takes_of, amounts_of, AreBounds}
use Rattle.escrow_laws.specs.Marks.{unmarked, mark_after, marked_by, marked_on}
use Rattle.escrow_laws.specs.Laws.{MarksAreExact}
use Rattle.escrow_laws.proofs.Runs.{legal-step, run-step, step-legal}
use Rattle.escrow_laws.proofs.Numbers.{within, inside_is, moves_by, by_found}

-- ---- one operation

-- the number moves by what it gives and takes: of two marks, how far it is above its lowest, and how far that is below the start
moved-step : (m : Mark) (found : Option Bounded) → (marked_by m found).above + m.fall + takes_of found ≡ (marked_by m found).fall + m.above + gives_of found
moved-step m None = omega arith
moved-step m (Some b) = omega arith

fall-step : (m : Mark) (found : Option Bounded) → (marked_by m found).fall ≡ m.fall + (takes_of found - (m.above + gives_of found))
fall-step m None = omega arith
fall-step m (Some b) = refl

above-step : (m : Mark) (found : Option Bounded) → (marked_by m found).above ≡ (m.above + gives_of found) - takes_of found
above-step m None = omega arith
above-step m (Some b) = refl

rise-step : (m : Mark) (found : Option Bounded) → m.above ≤ m.fall + m.rise → (marked_by m found).rise ≡ max m.rise ((marked_by m found).above - (marked_by m found).fall)
rise-step m None few = omega (arith, few)
rise-step m (Some b) few = refl

-- ---- how far they fall and rise

falls-on : (ops : List Bounded) (ks : List ℕ) (m : Mark) → (marked_on ops m ks).fall ≡ m.fall + (fall (amounts_of ops) ks - m.above)
falls-on ops [] m = omega arith
falls-on ops (k ∷ ks) m =
    let found : Option Bounded = slice_get ops k in
    let fallen = fall-step m found in
    let above = above-step m found in
    let rest = falls-on ops ks (marked_by m found) in
    omega (arith, rest, fallen, above)

rises-on : (ops : List Bounded) (ks : List ℕ) (m : Mark) → m.above ≤ m.fall + m.rise → (marked_on ops m ks).rise ≡ max m.rise ((m.above + rise (amounts_of ops) ks) - m.fall)
rises-on ops [] m few = omega (arith, few)
rises-on ops (k ∷ ks) m few =
    let found : Option Bounded = slice_get ops k in
    let moves = moved-step m found in
    let risen = rise-step m found few in
    let rest = rises-on ops ks (marked_by m found) (omega (arith, moves, risen)) in
    omega (arith, rest, moves, risen, few)

-- ---- where they end

ends-on : (T : Table) (top : ℕ) (ops : List Bounded) → AreBounds T top ops → (ks : List ℕ) (m : Mark) (s now e : ℕ) → now + m.fall ≡ s + m.above → run T (Some now) ks ≡ Some e →
    e + (marked_on ops m ks).fall ≡ s + (marked_on ops m ks).above
ends-on T top ops bounds [] m s now e at is = let same : now ≡ e = cc in omega (arith, same, at)
ends-on T top ops bounds (k ∷ ks) m s now e at is =
    let step = run-step T now k e ks is in
    let by = by_found (slice_get ops k) now step.0 (λ b found. (bounds.within k b found).enough) (sym (bounds.steps now k) ∙ step.1) in
    let moves = moved-step m (slice_get ops k) in
    ends-on T top ops bounds ks (marked_by m (slice_get ops k)) s step.0 e (omega (arith, at, by, moves)) step.2

-- ---- from where they are legal

floor-step : (m : Mark) (found : Option Bounded) → m.floor ≤ (marked_by m found).floor
floor-step m None = omega arith
floor-step m (Some b) = omega arith

ceiling-step : (m : Mark) (found : Option Bounded) → (marked_by m found).ceiling ≤ m.ceiling
ceiling-step m None = omega arith
ceiling-step m (Some b) = omega arith

-- more operations are legal from no more numbers
floor-on : (ops : List Bounded) (ks : List ℕ) (m : Mark) → m.floor ≤ (marked_on ops m ks).floor
floor-on ops [] m = omega arith
floor-on ops (k ∷ ks) m =
    let one = floor-step m (slice_get ops k) in
    let rest = floor-on ops ks (marked_by m (slice_get ops k)) in
    omega (arith, one, rest)

pub ceiling-on : (ops : List Bounded) (ks : List ℕ) (m : Mark) → (marked_on ops m ks).ceiling ≤ m.ceiling
ceiling-on ops [] m = omega arith
ceiling-on ops (k ∷ ks) m =
    let one = ceiling-step m (slice_get ops k) in
    let rest = ceiling-on ops ks (marked_by m (slice_get ops k)) in
    omega (arith, one, rest)

-- from s on, where the number is `now` now
abbrev IsLegalOn : Table → List Bounded → List ℕ → Mark → ℕ → ℕ → Type 0
IsLegalOn T ops ks m s now =
    (((marked_on ops m ks).floor ≤ s) × (s < (marked_on ops m ks).ceiling)) ↔ ((m.floor ≤ s) × (s < m.ceiling) × IsLegal T (Some now) ks)

module _ (T : Table) (top : ℕ) (ops : List Bounded) (bounds : AreBounds T top ops) where
  legal-by : (k : ℕ) (ks : List ℕ) (m : Mark) (s now : ℕ) → now + m.fall ≡ s + m.above → (found : Option Bounded) → slice_get ops k ≡ found →
      ((n : Mark) (then_now : ℕ) → then_now + n.fall ≡ s + n.above → IsLegalOn T ops ks n s then_now) →
      (((marked_on ops (marked_by m found) ks).floor ≤ s) × (s < (marked_on ops (marked_by m found) ks).ceiling)) ↔ ((m.floor ≤ s) × (s < m.ceiling) × IsLegal T (Some now) (k ∷ ks))
  legal-by k ks m s now at None is rest =
      let closed = ceiling-on ops ks (marked_by m None) in
      let nowhere : next T now k ≡ None = bounds.steps now k ∙ ap (λ found. moved_by found now) is in (
        λ h. absurd (omega (arith, closed, h.1)),
        λ h. absurd (nothing_legal T ks (rw nowhere at h.2)),
      )
  legal-by k ks m s now at (Some b) is rest =
      let here : next T now k ≡ moved b now = bounds.steps now k ∙ ap (λ found. moved_by found now) is in
      let takes : b.takes ≤ b.low = (bounds.within k b is).enough in
      let floor = floor-on ops ks (mark_after m b) in
      let ceiling = ceiling-on ops ks (mark_after m b) in (
        λ h.
            let low : b.low ≤ now = omega (arith, floor, h.0, at) in
            let high : now ≤ b.high = omega (arith, ceiling, h.1, at) in
            let after : ℕ = now + b.gives - b.takes in
            let legal = (rest (mark_after m b) after (omega (arith, at, takes, low))).0 h in
            (omega (arith, floor, h.0), omega (arith, ceiling, h.1), step-legal T now k after ks (here ∙ inside_is b now low high) legal.2),
        λ h.
            let step = legal-step T now k ks h.2 in
            let does : moved b now ≡ Some step.0 = sym here ∙ step.1 in
            let inside = within b now (is_there (moved b now) step.0 does) in
            let by = moves_by b now step.0 takes does in
            (rest (mark_after m b) step.0 (omega (arith, at, by))).1 (omega (arith, h.0, inside.0, at), omega (arith, h.1, inside.1, at), step.2),
      )

  legal-on : (ks : List ℕ) (m : Mark) (s now : ℕ) → now + m.fall ≡ s + m.above → IsLegalOn T ops ks m s now
  legal-on [] m s now at = (λ h. (h.0, h.1, refl), λ h. (h.0, h.1))
  legal-on (k ∷ ks) m s now at = legal-by k ks m s now at (slice_get ops k) refl (λ n then_now here. legal-on ks n s then_now here)

pub marks_exact : MarksAreExact
marks_exact = λ T top ops ks bounds. record {
  down = let on = falls-on ops ks (unmarked top) in omega (arith, on);
  up = let on = rises-on ops ks (unmarked top) (omega arith) in omega (arith, on);
  ends = λ s e is. ends-on T top ops bounds ks (unmarked top) s s e refl is;
  legal = λ s inside.
      let on = legal-on T top ops bounds ks (unmarked top) s s refl in
      (λ h. (on.0 h).2, λ legal. on.1 (omega arith, omega (arith, inside), legal));
}
