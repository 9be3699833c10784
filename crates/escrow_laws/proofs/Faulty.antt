-- A numeric type has no fault.
use Rattle.std.proofs.Common.{inl, inr, arith}
use Rattle.std.proofs.lemmas.Bool.{false≢true}
use Rattle.escrow_laws.specs.Laws.{NumericIsFaultless}

pub numeric_faultless : NumericIsFaultless
numeric_faultless = λ T a numeric k s fault. elim fault [
  | inl gap ↦
      let low = gap.below in
      let high = gap.above in
      let legal = numeric.between gap.low s gap.high k (omega (arith, low)) (omega (arith, high)) gap.legal_low gap.legal_high in
      false≢true (rw (gap.illegal) at legal)
  | inr moved ↦
      let here = numeric.moves s k moved.end moved.leads in
      let least = numeric.moves moved.least k moved.least_end moved.least_leads in
      moved.otherwise (omega (arith, here, least))
]
