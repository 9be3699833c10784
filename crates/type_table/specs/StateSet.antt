-- Sets of states.
use Rattle.std.specs.Prelude.{◌≡◌, ℕ, Bool, true, false, List, slice_index_or, Some}
use Rattle.type_table.specs.Table.{Table, next}

-- whether the state is a member, where the list says so of each state
abbrev pub has : List Bool → ℕ → Bool
has members s = slice_index_or members s false

-- no step leaves the set
abbrev pub IsClosed : Table → (ℕ → Bool) → Type 0
IsClosed T set = (s k t : ℕ) → set s ≡ true → next T s k ≡ Some t → set t ≡ true
