-- How far the search for the first fault has come: at one pair, and at one first state.
use Rattle.std.specs.Prelude.{◌≡◌, ℕ, ◌<◌, Bool, true, false, length}
use Rattle.type_table.specs.Table.{Table, next}
use Rattle.equi_cert.specs.Fault.{leads_outside, is_fault}

-- no operation leads from the pair outside
abbrev pub PairStays : Table → (ℕ → ℕ → Bool) → ℕ → ℕ → Type 0
PairStays T related s t = (k : ℕ) → leads_outside related (next T s k) (next T t k) ≡ false

-- k leads from the pair outside, and no operation before it does
pub record IsFirstOperation (T : Table) (related : ℕ → ℕ → Bool) (s t k : ℕ) : Type 0 where
  pub operation : k < length T.ops
  pub fails : leads_outside related (next T s k) (next T t k) ≡ true
  pub least_operation : (c : ℕ) → c < k → leads_outside related (next T s c) (next T t c) ≡ false

-- no pair of the first state s has a fault
abbrev pub RowHasNoFault : Table → (ℕ → ℕ → Bool) → ℕ → Type 0
RowHasNoFault T related s = (t k : ℕ) → is_fault T related s t k ≡ false

-- the first fault of the first state s
pub record IsFirstOfRow (T : Table) (related : ℕ → ℕ → Bool) (s t k : ℕ) : Type 0 where
  pub second : t < T.states
  pub operation : k < length T.ops
  pub fails : is_fault T related s t k ≡ true
  pub least_second : (b c : ℕ) → b < t → is_fault T related s b c ≡ false
  pub least_operation : (c : ℕ) → c < k → is_fault T related s t c ≡ false
