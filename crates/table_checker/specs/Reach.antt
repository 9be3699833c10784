-- Whether a set of states holds the initial state and is left by no step.
use Rattle.std.specs.Prelude.{◌≡◌, ℕ, ◌<◌, Bool, true, false, not, ◌&&◌, List, length, Option, None, Some}
use Rattle.type_table.specs.Table.{Table, next}
use Rattle.type_table.specs.StateSet.{has}

-- the next state, where there is one, isn't of the set
abbrev pub is_outside : List Bool → Option ℕ → Bool
is_outside members None = false
is_outside members (Some t) = not (has members t)

-- a step of k leads from a state s of the set outside
abbrev pub leaves_at : Table → List Bool → ℕ → ℕ → Bool
leaves_at T members s k = has members s && is_outside members (next T s k)

-- no step leaves the set
abbrev pub NeverLeaves : Table → List Bool → Type 0
NeverLeaves T members = (s k : ℕ) → s < T.states → k < length T.ops → leaves_at T members s k ≡ false

-- the first step that leaves the set: no smaller state has one, and this state none of a smaller operation
pub record IsFirstLeave (T : Table) (members : List Bool) (s k : ℕ) : Type 0 where
  pub state : s < T.states
  pub operation : k < length T.ops
  pub leaves : leaves_at T members s k ≡ true
  pub least_state : (r c : ℕ) → r < s → c < length T.ops → leaves_at T members r c ≡ false
  pub least_operation : (c : ℕ) → c < k → leaves_at T members s c ≡ false

-- no step leaves the set from the state s
abbrev pub StateStays : Table → List Bool → ℕ → Type 0
StateStays T members s = (k : ℕ) → k < length T.ops → leaves_at T members s k ≡ false

-- the first operation by which the state s leads outside
pub record IsFirstLeaveOf (T : Table) (members : List Bool) (s k : ℕ) : Type 0 where
  pub operation : k < length T.ops
  pub leaves : leaves_at T members s k ≡ true
  pub least_operation : (c : ℕ) → c < k → leaves_at T members s c ≡ false
