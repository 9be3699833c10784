-- The calls of a number, and their order.
use Rattle.std.specs.Prelude.{ℕ, Bool, true, ◌&&◌, ◌||◌, List, [], ◌∷◌, nat_lt, nat_le, ◌==◌}
use Rattle.std.specs.List.{list_all}
use Rattle.number_types.specs.declared.number_call.NumberCall.{NumberCall}
use Rattle.number_types.specs.declared.number_call.NumberCall.TheVariants.{Take, TakeAny, Give, GiveAny, AtLeast, Value}

-- the greatest number that there is
abbrev pub most_number : ℕ
most_number = 4294967295

-- the most calls of a number
abbrev pub most_calls : ℕ
most_calls = 32

-- the rank of a kind of call, from that of the section of its lines in a number file
abbrev pub call_rank : NumberCall → ℕ
call_rank (Take k) = 3
call_rank TakeAny = 4
call_rank (Give k) = 5
call_rank GiveAny = 6
call_rank (AtLeast k) = 7
call_rank Value = 8

-- the amount that a call lists, and 0 of one that lists none
abbrev pub amount_of : NumberCall → ℕ
amount_of (Take k) = k
amount_of (Give k) = k
amount_of (AtLeast k) = k
amount_of _ = 0

-- an amount is 1 to the greatest value
abbrev pub is_amount : ℕ → ℕ → Bool
is_amount max k = nat_le 1 k && nat_le k max

abbrev pub is_within : ℕ → NumberCall → Bool
is_within max (Take k) = is_amount max k
is_within max (Give k) = is_amount max k
is_within max (AtLeast k) = is_amount max k
is_within max _ = true

-- the order of calls: by rank, then by amount
abbrev pub is_below : NumberCall → NumberCall → Bool
is_below c d = nat_lt (call_rank c) (call_rank d) || (call_rank c == call_rank d && nat_lt (amount_of c) (amount_of d))

-- each call is below all those after it
abbrev pub are_ascending : List NumberCall → Bool
are_ascending [] = true
are_ascending (c ∷ cs) = list_all (is_below c) cs && are_ascending cs
