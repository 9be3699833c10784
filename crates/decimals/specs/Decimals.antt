-- The numbers that decimal digits say.
use Rattle.std.specs.Prelude.{◌≡◌, ℕ, ◌+◌, ◌-◌, ◌*◌, ◌<◌, ◌≤◌, Bool, true, not, ◌&&◌, ◌||◌, List, length, nat_le, ◌==◌, if◌then◌else◌, slice_index, Option, Some, None, fold}
use Rattle.std.specs.Fmt.{decimal}
use Rattle.std.specs.List.{list_all}

-- `0` to `9`
abbrev pub is_digit : ℕ → Bool
is_digit b = nat_le 48 b && nat_le b 57

-- what decimal digits say
abbrev pub number_value : List ℕ → ℕ
number_value w = fold (λ n b. 10 * n + (b - 48)) 0 w

-- `0`, or one to seven decimal digits without a leading zero
abbrev pub is_number : List ℕ → Bool
is_number w = nat_le 1 (length w) && nat_le (length w) 7 && list_all is_digit w && (length w == 1 || not (slice_index w 0 == 48))

-- the number that a word is
abbrev pub number_of : List ℕ → Option ℕ
number_of w = if is_number w then Some (number_value w) else None

-- `0`, or one to ten decimal digits without a leading zero
abbrev pub is_long_number : List ℕ → Bool
is_long_number w = nat_le 1 (length w) && nat_le (length w) 10 && list_all is_digit w && (length w == 1 || not (slice_index w 0 == 48))

-- the number that a word is
abbrev pub long_number_of : List ℕ → Option ℕ
long_number_of w = if is_long_number w then Some (number_value w) else None

-- the decimal text of a number has at most seven digits, which are read as this number
pub record IsRead (n : ℕ) : Type 0 where
  pub read : number_of (decimal n) ≡ Some n
  pub some : 0 < length (decimal n)
  pub digits : list_all is_digit (decimal n) ≡ true
  pub short : length (decimal n) ≤ 7

-- or at most ten
pub record IsReadLong (n : ℕ) : Type 0 where
  pub read : long_number_of (decimal n) ≡ Some n
  pub some : 0 < length (decimal n)
  pub digits : list_all is_digit (decimal n) ≡ true
  pub short : length (decimal n) ≤ 10
