-- Where a type isn't numeric. All states count, whether a list of operations leads to them or not.
use Rattle.std.specs.Prelude.{◌≡◌, ℕ, ◌+◌, ◌<◌, length, Some, None, IsSome, ◌⊎◌}
use Rattle.type_table.specs.Table.{Table, next}

-- operation k is illegal in s, and legal in a lower and in a higher state
pub record HasGap (T : Table) (k s : ℕ) : Type 0 where
  pub low : ℕ
  pub high : ℕ
  pub below : low < s
  pub above : s < high
  pub illegal : next T s k ≡ None
  pub legal_low : IsSome (next T low k)
  pub legal_high : IsSome (next T high k)

-- k is legal in s, and moves s otherwise than it moves the least state in which it is legal
pub record MovesOtherwise (T : Table) (k s : ℕ) : Type 0 where
  pub end : ℕ
  pub leads : next T s k ≡ Some end
  pub least : ℕ
  pub least_end : ℕ
  pub least_leads : next T least k ≡ Some least_end
  pub is_least : (r : ℕ) → r < least → next T r k ≡ None
  pub otherwise : end + least ≡ s + least_end → ⊥

-- k is at fault in s
abbrev pub IsNumericFault : Table → ℕ → ℕ → Type 0
IsNumericFault T k s = HasGap T k s ⊎ MovesOtherwise T k s

-- no operation is at fault anywhere
abbrev pub IsFaultless : Table → Type 0
IsFaultless T = (k s : ℕ) → IsNumericFault T k s → ⊥

-- the least operation that is at fault, and the least state in which it is
pub record IsFirstNumericFault (T : Table) (k s : ℕ) : Type 0 where
  pub operation : k < length T.ops
  pub state : s < T.states
  pub fails : IsNumericFault T k s
  pub least_operation : (j r : ℕ) → j < k → IsNumericFault T j r → ⊥
  pub least_state : (r : ℕ) → r < s → IsNumericFault T k r → ⊥
