-- Escrow: the states that show that a type isn't numeric, at operation k and state s.
use Rattle.std.specs.Prelude.{◌≡◌, ℕ, ◌<◌, ◌≤◌, Some, None, IsSome}
use Rattle.type_table.specs.Table.{Table, next}
use Rattle.pair_needs.specs.declared.numeric_fault.WhyNot.{WhyNot}
use Rattle.pair_needs.specs.declared.numeric_fault.WhyNot.TheVariants.{Gap, Move}

-- the operation is legal in some state from this one on
abbrev pub IsLegalFrom : Table → ℕ → ℕ → Type 0
IsLegalFrom T k start = (s : ℕ) × (start ≤ s) × IsSome (next T s k)

-- the least such state
pub record IsFirstLegalFrom (T : Table) (k start s : ℕ) : Type 0 where
  pub from_start : start ≤ s
  pub legal : IsSome (next T s k)
  pub first : (r : ℕ) → start ≤ r → r < s → next T r k ≡ None

-- k is illegal in s, and legal in a lower state and in a higher one; or it moves s otherwise than the least state in which it is legal
abbrev pub IsWhyNot : Table → ℕ → ℕ → WhyNot → Type 0
IsWhyNot T k s (Gap low high) = IsFirstLegalFrom T k 0 low × (low < s) × (next T s k ≡ None) × IsFirstLegalFrom T k s high
IsWhyNot T k s (Move low low_end end) = IsFirstLegalFrom T k 0 low × (next T low k ≡ Some low_end) × (next T s k ≡ Some end)
