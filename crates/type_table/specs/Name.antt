-- Which bytes are a name.
use Rattle.std.specs.Prelude.{ℕ, Bool, ◌&&◌, ◌||◌, List, length, nat_le, ◌==◌}
use Rattle.std.specs.List.{list_all}
use Rattle.type_table.specs.Limits.{longest_name}

-- `a` to `z`, `0` to `9`, `_`, `:` and `-`
abbrev pub is_name_byte : ℕ → Bool
is_name_byte b = (nat_le 97 b && nat_le b 122) || (nat_le 48 b && nat_le b 57) || b == 95 || b == 58 || b == 45

-- 1 to 32 of these bytes
unfoldable pub is_name : List ℕ → Bool
is_name w = nat_le 1 (length w) && nat_le (length w) longest_name && list_all is_name_byte w
