-- Where a relation is no simulation.
use Rattle.std.specs.Prelude.{◌≡◌, ℕ, ◌<◌, ◌==◌, Bool, true, false, not, ◌&&◌, ◌||◌, length, Option, Some, None}
use Rattle.type_table.specs.Table.{Table, next}

-- of two next states the first is there, and the second isn't, or they are neither equal nor a pair
abbrev pub leads_outside : (ℕ → ℕ → Bool) → Option ℕ → Option ℕ → Bool
leads_outside related None other = false
leads_outside related (Some s) None = true
leads_outside related (Some s) (Some t) = not (s == t || related s t)

-- a pair, and an operation that leads from it outside
abbrev pub is_fault : Table → (ℕ → ℕ → Bool) → ℕ → ℕ → ℕ → Bool
is_fault T related s t k = related s t && leads_outside related (next T s k) (next T t k)

-- there is no fault
abbrev pub NeverFails : Table → (ℕ → ℕ → Bool) → Type 0
NeverFails T related = (s t k : ℕ) → is_fault T related s t k ≡ false

-- the first fault in ascending order: none has a smaller first state, none at this first state has a smaller second
-- one, and none at this pair has a smaller operation
pub record IsFirstFault (T : Table) (related : ℕ → ℕ → Bool) (s t k : ℕ) : Type 0 where
  pub first : s < T.states
  pub second : t < T.states
  pub operation : k < length T.ops
  pub fails : is_fault T related s t k ≡ true
  pub least_first : (a b c : ℕ) → a < s → is_fault T related a b c ≡ false
  pub least_second : (b c : ℕ) → b < t → is_fault T related s b c ≡ false
  pub least_operation : (c : ℕ) → c < k → is_fault T related s t c ≡ false
