-- Two sums and two extremes say whether what was done is firm.
use Rattle.std.proofs.Common.{◌≡◌, ℕ, ◌+◌, ◌-◌, ◌<◌, ◌≤◌, true, ◌&&◌, nat_lt, List, [], ◌∷◌, refl, arith}
use Rattle.std.specs.Prelude.{nat_le}
use Rattle.std.specs.List.{list_all, sum_by, AllByRecursion}
use Rattle.std.proofs.lemmas.Bool.{and_parts, and_from, leb-true, le-leb, ltb-true, lt-ltb}
use Rattle.std.proofs.lemmas.List.Sums.{sum_by-cons}
use Rattle.type_table.proofs.Elements.{each-weaker}
use Rattle.escrow_laws.specs.declared.mark.Mark.{Mark}
use Rattle.escrow_laws.specs.declared.mark.OpenMark.{OpenMark}
use Rattle.escrow_laws.specs.Marks.{fallen_of, risen_of, is_legal_from, is_low, is_high, most_needed, least_limit}
use Rattle.escrow_laws.specs.Laws.{SumsFit, MarksTellFirm, ExtremesTellFirm}
use Rattle.escrow_laws.proofs.Telling.{all-fall, all-rise}

-- each is counted in a sum
each-counted : (amount : OpenMark → ℕ) (os : List OpenMark) → AllByRecursion (λ o. amount o ≤ sum_by amount os) os
each-counted amount [] = tt
each-counted amount (o ∷ os) =
    let more = sum_by-cons amount o os in
    (omega (arith, more), each-weaker (λ q less. omega (arith, more, less)) os (each-counted amount os))

-- what has a mark is legal from a number
legal-from : (x : Mark) (s : ℕ) → x.floor ≤ s → s < x.ceiling → is_legal_from x s ≡ true
legal-from x s low high = and_from (nat_le x.floor s) (nat_lt s x.ceiling) (le-leb x.floor s low) (lt-ltb s x.ceiling high)

-- and the converse
from-legal : (x : Mark) (s : ℕ) → is_legal_from x s ≡ true → (x.floor ≤ s) × (s < x.ceiling)
from-legal x s legal =
    let parts = and_parts (nat_le x.floor s) (nat_lt s x.ceiling) legal in
    (leb-true x.floor s parts.0, ltb-true s x.ceiling parts.1)

module _ (base top fallen risen : ℕ) where
  -- where the extremes allow it, each passes
  extremes-pass : (os : List OpenMark) → AllByRecursion (λ o. o.mark.fall ≤ fallen) os → AllByRecursion (λ o. o.mark.rise ≤ risen) os
      → fallen + most_needed os ≤ base → base + risen < least_limit top os → list_all (λ o. is_low base fallen o.mark && is_high base risen o.mark) os ≡ true
  extremes-pass [] falls rises low high = refl
  extremes-pass (o ∷ os) falls rises low high =
      let x : Mark = o.mark in
      let down = falls.0 in
      let up = rises.0 in
      and_from (is_low base fallen x && is_high base risen x) (list_all (λ q. is_low base fallen q.mark && is_high base risen q.mark) os)
      (and_from (is_low base fallen x) (is_high base risen x)
      (legal-from x (base - (fallen - x.fall)) (omega (arith, low, down)) (omega (arith, high, up)))
      (legal-from x (base + (risen - x.rise)) (omega (arith, low, down)) (omega (arith, high, up))))
      (extremes-pass os falls.1 rises.1 (omega (arith, low)) (omega (arith, high)))

  -- and the converse
  pass-extremes : (os : List OpenMark) → AllByRecursion (λ o. o.mark.fall ≤ fallen) os → AllByRecursion (λ o. o.mark.rise ≤ risen) os
      → fallen ≤ base → base + risen ≤ top → list_all (λ o. is_low base fallen o.mark && is_high base risen o.mark) os ≡ true
      → (fallen + most_needed os ≤ base) × (base + risen < least_limit top os)
  pass-extremes [] falls rises low high passes = (omega (arith, low), omega (arith, high))
  pass-extremes (o ∷ os) falls rises low high passes =
      let x : Mark = o.mark in
      let all = and_parts (is_low base fallen x && is_high base risen x) (list_all (λ q. is_low base fallen q.mark && is_high base risen q.mark) os) passes in
      let here = and_parts (is_low base fallen x) (is_high base risen x) all.0 in
      let lowest = from-legal x (base - (fallen - x.fall)) here.0 in
      let highest = from-legal x (base + (risen - x.rise)) here.1 in
      let rest = pass-extremes os falls.1 rises.1 low high all.1 in
      let down = falls.0 in
      let up = rises.0 in
      (omega (arith, lowest.0, rest.0, down, low), omega (arith, highest.1, rest.1, up))

pub extremes_telling : MarksTellFirm → SumsFit → ExtremesTellFirm
extremes_telling tell fit = λ T top base m ops own marks bounds inside known.
    let falls = each-counted (λ o. o.mark.fall) marks in
    let rises = each-counted (λ o. o.mark.rise) marks in
    let told = tell T top base m ops own marks bounds known in (
      λ extremes. told.0 (extremes-pass base top (fallen_of marks) (risen_of marks) marks falls rises extremes.0 extremes.1),
      λ firm.
          let sums = fit T top base m ops own bounds inside firm in
          let down = all-fall T top base m ops own marks bounds known in
          let up = all-rise T top base m ops own marks bounds known in
          pass-extremes base top (fallen_of marks) (risen_of marks) marks falls rises (omega (arith, sums.0, down)) (omega (arith, sums.1, up)) (told.1 firm),
    )
