-- Which bytes are an object's name.
use Rattle.std.specs.Prelude.{◌≡◌, ℕ, Bool, true, false, ◌&&◌, ◌||◌, List, length, nat_le, ◌==◌, Option, Some}
use Rattle.std.specs.List.{list_all}
use Rattle.std.specs.Str.{bytes_eq}

-- the most bytes of an object's name
abbrev pub longest_object_name : ℕ
longest_object_name = 64

-- `a` to `z`, `A` to `Z`, `0` to `9`, `_`, `:`, `-`, `.` and `/`
abbrev pub is_object_name_byte : ℕ → Bool
is_object_name_byte b = (nat_le 97 b && nat_le b 122) || (nat_le 65 b && nat_le b 90) || (nat_le 48 b && nat_le b 57) || b == 95 || b == 58 || b == 45 || b == 46 || b == 47

-- 1 to 64 of these bytes
unfoldable pub is_object_name : List ℕ → Bool
is_object_name w = nat_le 1 (length w) && nat_le (length w) longest_object_name && list_all is_object_name_byte w

abbrev pub IsObjectName : List ℕ → Type 0
IsObjectName w = is_object_name w ≡ true

-- whether two objects have one name; what has none is nameless
abbrev pub is_same_name : Option (List ℕ) → Option (List ℕ) → Bool
is_same_name (Some a) (Some b) = bytes_eq a b
is_same_name _ _ = false
