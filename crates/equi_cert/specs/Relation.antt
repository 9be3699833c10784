-- Which state is related to which.
use Rattle.std.specs.Prelude.{◌≡◌, ℕ, ◌<◌, ◌≤◌, Bool, true, false, List, length, map, slice_index_or}
use Rattle.std.specs.List.{range_with_len}
use Rattle.type_table.specs.ConflictTable.{conflict_row, IsSquare}

-- a row for each first state, and in it a cell for each second one

-- s is related to t
abbrev pub relates : List (List Bool) → ℕ → ℕ → Bool
relates rows s t = slice_index_or (conflict_row rows s) t false

-- the rows of a test of two states
abbrev pub rows_by : ℕ → (ℕ → ℕ → Bool) → List (List Bool)
rows_by states test = map (λ s. map (test s) (range_with_len 0 states)) (range_with_len 0 states)

-- each state is related to itself
abbrev pub IsReflexive : List (List Bool) → Type 0
IsReflexive rows = (s : ℕ) → s < length rows → relates rows s s ≡ true

-- what is known of each relation
pub record IsRelation (rows : List (List Bool)) : Type 0 where
  pub some_states : 0 < length rows
  pub states_fit : length rows ≤ 1024
  pub square : IsSquare (length rows) rows
  pub reflexive : IsReflexive rows
