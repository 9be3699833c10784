-- Nobody is kept from what cannot harm, and sums fit.
use Rattle.std.proofs.Common.{◌≡◌, ℕ, zero, suc, ◌+◌, ◌-◌, ◌<◌, ◌≤◌, List, [], ◌∷◌, ◌⊎◌, Option, Some, None, refl, sym, ◌∙◌, inl, inr, arith}
use Rattle.std.specs.Prelude.{slice_get}
use Rattle.std.proofs.lemmas.Bool.{cases_lt}
use Rattle.std.proofs.lemmas.Option.{none-some}
use Rattle.type_table.specs.Table.{Table}
use Rattle.type_table.specs.Run.{run, IsLegal}
use Rattle.type_table.proofs.Legal.{some_state, is_there}
use Rattle.escrow_laws.specs.declared.bounded.Bounded.{Bounded}
use Rattle.escrow_laws.specs.Amounts.{fall, rise}
use Rattle.escrow_laws.specs.Bounds.{moved, moved_by, gives_of, takes_of, amounts_of, IsWithinBounds, AreBounds}
use Rattle.escrow_laws.specs.Firm.{sum_below, others_fall, others_rise}
use Rattle.escrow_laws.specs.Laws.{FirmKeepsNobody, MarksFit, SumsFit}
use Rattle.escrow_laws.specs.Marks.{unmarked}
use Rattle.escrow_laws.proofs.Runs.{legal-step, run-moved}
use Rattle.escrow_laws.proofs.Numbers.{within, moves_by, bounds_numeric}
use Rattle.escrow_laws.proofs.Exact.{marks_exact, ceiling-on}
use Rattle.escrow_laws.proofs.Staying.{both_firm}
use Rattle.escrow_laws.proofs.Sums.{sum-except}

pub firm_keeps : FirmKeepsNobody
firm_keeps = λ T a base m own t u firm.
    let mine = both_firm T a base m own firm t in
    let theirs = both_firm T a base m own firm u in
    simp (theirs.0, theirs.1, mine.0, mine.1)

-- ---- what is legal has room

-- by one operation
step-room : (top : ℕ) (found : Option Bounded) (s t : ℕ) → ((b : Bounded) → found ≡ Some b → IsWithinBounds top b) → moved_by found s ≡ Some t →
    (t + takes_of found ≡ s + gives_of found) × (t ≤ top)
step-room top None s t fits is = absurd (none-some t is)
step-room top (Some b) s t fits is =
    let fit = fits b refl in
    let inside = within b s (is_there (moved b s) t is) in
    let by = moves_by b s t fit.enough is in
    (by, omega (arith, by, fit.room, inside.1))

legal-room : (T : Table) (top : ℕ) (ops : List Bounded) → AreBounds T top ops → (s : ℕ) (ks : List ℕ) → s ≤ top → IsLegal T (Some s) ks →
    (fall (amounts_of ops) ks ≤ s) × (s + rise (amounts_of ops) ks ≤ top)
legal-room T top ops bounds s [] low legal = (omega arith, omega (arith, low))
legal-room T top ops bounds s (k ∷ ks) low legal =
    let step = legal-step T s k ks legal in
    let room = step-room top (slice_get ops k) s step.0 (bounds.within k) (sym (bounds.steps s k) ∙ step.1) in
    let rest = legal-room T top ops bounds step.0 ks room.1 step.2 in
    (omega (arith, rest.0, room.0), omega (arith, rest.1, room.0, low))

-- so a mark is small
pub marks_small : MarksFit
marks_small = λ T top base ops ks bounds inside legal.
    let exact = marks_exact T top ops ks bounds in
    let room = legal-room T top ops bounds base ks inside legal in
    let last = some_state (run T (Some base) ks) legal in
    let moved = run-moved T (amounts_of ops) (bounds_numeric T top ops bounds) base last.0 ks last.1 in
    let ends = exact.ends base last.0 last.1 in
    let between = (exact.legal base inside).1 legal in
    let falls = exact.down in
    let rises = exact.up in
    record {
      down = omega (arith, falls, room.0);
      up = omega (arith, rises, room.1);
      end = omega (arith, ends, moved.1, rises);
      least = between.0;
      most = ceiling-on ops ks (unmarked top);
    }

-- what rises at all is legal from no number above top
legal-top : (T : Table) (top : ℕ) (ops : List Bounded) → AreBounds T top ops → (s : ℕ) (ks : List ℕ) → IsLegal T (Some s) ks → 0 < rise (amounts_of ops) ks → s + rise (amounts_of ops) ks ≤ top
legal-top T top ops bounds s [] legal some = absurd (omega (arith, some))
legal-top T top ops bounds s (k ∷ ks) legal some =
    let step = legal-step T s k ks legal in
    let room = step-room top (slice_get ops k) s step.0 (bounds.within k) (sym (bounds.steps s k) ∙ step.1) in
    let rest = legal-room T top ops bounds step.0 ks room.1 step.2 in
    omega (arith, rest.1, room.0, some)

-- ---- sums

-- all are nothing, or one of them isn't
some-below : (m : ℕ) (f : ℕ → ℕ) → (sum_below m f ≡ 0) ⊎ ((u : ℕ) × (u < m) × (0 < f u))
some-below zero f = inl refl
some-below (suc m) f =
    elim (cases_lt 0 (f m)) [
      | inl here ↦ inr (m, omega arith, here)
      | inr none ↦ elim (some-below m f) [
        | inl rest ↦ inl (omega (arith, rest, none))
        | inr one ↦ let inside = one.1 in inr (one.0, omega (arith, inside), one.2)
      ]
    ]

-- all rises together, where one rises whose operations are legal from as far above base as the others rise
rise-room : (T : Table) (top base others : ℕ) (ks : List ℕ) (ops : List Bounded) → AreBounds T top ops → IsLegal T (Some (base + others)) ks → (sum : ℕ) → sum ≤ others + rise (amounts_of ops) ks →
    0 < rise (amounts_of ops) ks → base + sum ≤ top
rise-room T top base others ks ops bounds legal sum less some = let room = legal-top T top ops bounds (base + others) ks legal some in omega (arith, room, less)

pub sums : SumsFit
sums = λ T top base m ops own bounds low firm. (
  elim (some-below m (λ u. fall (amounts_of ops) (own u))) [
    | inl none ↦ omega (arith, none)
    | inr one ↦
        let u = one.0 in
        let F : ℕ = others_fall (amounts_of ops) own m u in
        let legal = firm u m (base - F) (omega arith) (omega arith) in
        let room = legal-room T top ops bounds (base - F) (own u) (omega (arith, low)) legal in
        let all = sum-except m (λ v. fall (amounts_of ops) (own v)) u in
        let some = one.2 in
        omega (arith, room.0, all, some)
  ],
  elim (some-below m (λ u. rise (amounts_of ops) (own u))) [
    | inl none ↦ omega (arith, none, low)
    | inr one ↦
        let u = one.0 in
        let R : ℕ = others_rise (amounts_of ops) own m u in
        let all = sum-except m (λ v. rise (amounts_of ops) (own v)) u in
        rise-room T top base R (own u) ops bounds (firm u m (base + R) (omega arith) (omega arith)) (sum_below m (λ v. rise (amounts_of ops) (own v))) all one.2
  ],
)
