-- The least state in which an operation is legal, and why a type isn't numeric.
use Rattle.std.proofs.Common.{◌≡◌, ℕ, ◌<◌, ◌≤◌, Option, Some, None, IsSome, MatchOption, refl, inl, inr, arith}
use Rattle.std.specs.Option.{unwrap_or}
use Rattle.std.proofs.lemmas.Bool.{cases_lt, false≢true}
use Rattle.type_table.specs.Laws.{StepsWithin}
use Rattle.type_table.specs.Table.{Table, IsTable, next}
use Rattle.type_table.proofs.Legal.{is_there}
use Rattle.escrow_laws.specs.Faults.{HasGap, IsNumericFault}
use Rattle.pair_needs.specs.WhyNot.{IsFirstLegalFrom, IsLegalFrom}

-- ---- what is there

-- nothing is there where each number is refused
nothing_there : (o : Option ℕ) → ((t : ℕ) → o ≡ Some t → ⊥) → o ≡ None
nothing_there None never = refl
nothing_there (Some t) never = absurd (never t refl)

-- something isn't nothing
not_both : (o : Option ℕ) → IsSome o → o ≡ None → ⊥
not_both None some none = false≢true some
not_both (Some t) some none = cc

-- ---- the least state

-- an operation is legal in no state that there isn't
illegal_outside : StepsWithin → (T : Table) → IsTable T → (s k : ℕ) → T.states ≤ s → next T s k ≡ None
illegal_outside within T table s k outside =
    nothing_there (next T s k) (λ t leads. omega (arith, outside, (within T s k t table leads).0))

-- where it is in none of those that were looked at, it is in none
pub illegal_everywhere : StepsWithin → (T : Table) → IsTable T → (k start end : ℕ) → T.states ≤ end → ((r : ℕ) → start ≤ r → r < end → next T r k ≡ None)
    → (r : ℕ) → start ≤ r → next T r k ≡ None
illegal_everywhere within T table k start end all looked r after =
    elim (cases_lt r end) [ inl less ↦ looked r after less | inr more ↦ illegal_outside within T table r k (omega arith) ]

module _ (T : Table) (k start : ℕ) where
  -- the one that a search found, where there is one
  pub found_there : (o : Option ℕ) → MatchOption o ((s : ℕ) → start ≤ s → next T s k ≡ None) (λ s. IsFirstLegalFrom T k start s × (s < T.states)) → IsLegalFrom T k start
      → IsFirstLegalFrom T k start (unwrap_or o start) × (unwrap_or o start < T.states)
  found_there None illegal some = absurd (not_both (next T some.0 k) some.2 (illegal some.0 some.1))
  found_there (Some s) found some = found

-- ---- where a type isn't numeric

module _ (T : Table) (k s : ℕ) where
  -- a gap is between two states
  pub legal_below : HasGap T k s → IsLegalFrom T k 0
  legal_below gap = (gap.low, omega arith, gap.legal_low)

  pub legal_above : HasGap T k s → IsLegalFrom T k s
  legal_above gap = (gap.high, omega (arith, gap.above), gap.legal_high)

  -- and the least is below it
  pub least_below : (low : ℕ) → HasGap T k s → IsFirstLegalFrom T k 0 low → low < s
  least_below low gap least = elim (cases_lt low s) [
    | inl less ↦ less
    | inr more ↦ absurd (not_both (next T gap.low k) gap.legal_low (least.first gap.low (omega arith) (omega (arith, more, gap.below))))
  ]

  -- an illegal operation that is at fault has one
  pub gap_of : next T s k ≡ None → IsNumericFault T k s → HasGap T k s
  gap_of illegal fault = elim fault [
    | inl gap ↦ gap
    | inr moves ↦ absurd (not_both (next T s k) (is_there (next T s k) moves.end moves.leads) illegal)
  ]

  -- what leads somewhere is legal
  pub legal_here : (end : ℕ) → next T s k ≡ Some end → IsLegalFrom T k 0
  legal_here end leads = (s, omega arith, is_there (next T s k) end leads)
