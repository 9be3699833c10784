-- Numbers and transactions in words.
use Rattle.std.specs.Prelude.{ℕ, ◌+◌, Bool, not, ◌&&◌, ◌||◌, List, length, take, drop, position, nat_le, nat_lt, ◌==◌, if◌then◌else◌, slice_index, Option, Some, None}
use Rattle.std.specs.List.{list_all}
use Rattle.decimals.specs.Decimals.{is_digit, number_value}
use Rattle.request_text.specs.declared.request.TransactionName.{TransactionName}

-- `0`, or one to ten decimal digits without a leading zero
abbrev pub is_request_number : List ℕ → Bool
is_request_number w = nat_le 1 (length w) && nat_le (length w) 10 && list_all is_digit w && (length w == 1 || not (slice_index w 0 == 48))

-- a number of 32 bits
abbrev pub short_number : ℕ → Option ℕ
short_number n = if nat_lt n 0x1_0000_0000 then Some n else None

-- the number that a word is
abbrev pub request_number : List ℕ → Option ℕ
request_number w = if is_request_number w then short_number (number_value w) else None

-- the place of the first point
abbrev pub point_in : List ℕ → Option ℕ
point_in w = position (λ b. b == 46) w

-- a life and a number
abbrev pub transaction : Option ℕ → Option ℕ → Option TransactionName
transaction (Some life) (Some number) = Some (record { life = life; number = number })
transaction (Some life) None = None
transaction None number = None

-- what comes before a point and what comes after it
abbrev pub transaction_around : Option ℕ → List ℕ → Option TransactionName
transaction_around None w = None
transaction_around (Some at) w = transaction (request_number (take at w)) (request_number (drop (at + 1) w))

-- the transaction that a word is
abbrev pub transaction_of : List ℕ → Option TransactionName
transaction_of w = transaction_around (point_in w) w
