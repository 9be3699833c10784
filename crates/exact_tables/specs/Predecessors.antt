-- The states from which operations lead to states.
use Rattle.std.specs.Prelude.{◌≡◌, ◌↔◌, ℕ, ◌+◌, ◌*◌, ◌<◌, List, [], length, map, Some, Vec, slice_get, slice_index_or}
use Rattle.std.specs.declared.alloc.Global.{Global}
use Rattle.type_table.specs.Table.{Table, IsTable, next}
use Rattle.exact_tables.specs.declared.predecessors.Predecessors.{Predecessors}

-- the number is in the list
abbrev pub IsAmong : List ℕ → ℕ → Type 0
IsAmong xs x = (place : ℕ) × (slice_get xs place ≡ Some x)

-- among its first n
abbrev pub IsAmongFirst : List ℕ → ℕ → ℕ → Type 0
IsAmongFirst xs n x = (place : ℕ) × (place < n) × (slice_get xs place ≡ Some x)

-- what lists of numbers hold
abbrev pub lists_of : List (Vec ℕ Global) → List (List ℕ)
lists_of lists = map (λ (list : Vec ℕ Global). list.items) lists

-- there is a list for each state and operation, with the states from which the operation leads to the state; so far of these steps alone
pub record HaveSteps (T : Table) (P : ℕ → ℕ → Type 0) (lists : List (List ℕ)) : Type 0 where
  pub whole : length lists ≡ T.states * length T.ops
  pub each : (t k s : ℕ) → t < T.states → k < length T.ops → IsAmong (slice_index_or lists (t * length T.ops + k) []) s ↔ (P s k × (next T s k ≡ Some t))

-- and of all
pub record ArePredecessors (T : Table) (p : Predecessors) : Type 0 where
  pub table : IsTable T
  pub ops : p.ops ≡ length T.ops
  pub steps : HaveSteps T (λ s k. s < T.states) (lists_of p.lists.items)
