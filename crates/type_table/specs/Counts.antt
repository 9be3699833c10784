-- The ranges of a table's numbers.
use Rattle.std.specs.Prelude.{ℕ, ◌*◌, Bool, true, ◌&&◌, nat_lt, nat_le, ◌==◌, Option, Some, None}
use Rattle.type_table.specs.Limits.{most_states, most_ops}

-- 1 to 1,024 states, 1 to 64 operations, and an entry for each state and operation
abbrev pub has_counts : ℕ → ℕ → ℕ → Bool
has_counts states ops steps = nat_le 1 states && nat_le states most_states && nat_le 1 ops && nat_le ops most_ops && steps == states * ops

-- an entry leads to a state, where it leads anywhere
abbrev pub is_inside : ℕ → Option ℕ → Bool
is_inside states None = true
is_inside states (Some t) = nat_lt t states
