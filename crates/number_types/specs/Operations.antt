-- The operations of a number, and their bounds.
use Rattle.std.specs.Prelude.{ℕ, ◌+◌, ◌-◌, ◌*◌, ◌/◌, ◌%◌, ◌==◌, ◌≤◌, if◌then◌else◌, List, [], ◌∷◌, ◌++◌, map, Option, Some, None, Bool, false, nat_le, slice_get, option_and_then, ◌≡◌, codes}
use Rattle.std.specs.Fmt.{decimal}
use Rattle.std.specs.List.{flat_map, list_any, range_with_len}
use Rattle.type_table.specs.Operation.{places, place_of, amount_of}
use Rattle.type_table.specs.Table.{Table}
use Rattle.type_table.specs.declared.op.Op.{Op}
use Rattle.escrow_laws.specs.Bounds.{AreBounds, steps_of, bounds_of, nowhere}
use Rattle.escrow_laws.specs.declared.bounded.Bounded.{Bounded}
use Rattle.number_types.specs.declared.number_call.NumberCall.{NumberCall}
use Rattle.number_types.specs.declared.number_call.NumberCall.TheVariants as calls
use Rattle.number_types.specs.declared.number_op.NumberOp.{NumberOp}
use Rattle.number_types.specs.declared.number_op.NumberOp.TheVariants.{Take, Short, Give, Full, AtLeast, Below, Value}
use Rattle.number_types.specs.Calls.{is_amount}
use Rattle.number_types.specs.Number.{Number, IsNumber}

-- ---- what operations are called and answer

-- an operation of a call with this reply
abbrev pub op_with : List ℕ → List ℕ → Op
op_with call reply = record { call = call; reply = reply }

abbrev pub op_names : NumberOp → Op
op_names (Take n) = op_with (codes "take:" ++ decimal n) (codes "ok")
op_names (Short n) = op_with (codes "take:" ++ decimal n) (codes "short")
op_names (Give n) = op_with (codes "give:" ++ decimal n) (codes "ok")
op_names (Full n) = op_with (codes "give:" ++ decimal n) (codes "full")
op_names (AtLeast n) = op_with (codes "atleast:" ++ decimal n) (codes "yes")
op_names (Below n) = op_with (codes "atleast:" ++ decimal n) (codes "no")
op_names (Value n) = op_with (codes "value") (decimal n)

-- ---- bounds

-- an operation that is legal from low to high, and gives or takes an amount, or moves nothing
abbrev pub giving : ℕ → ℕ → ℕ → Bounded
giving low high amount = record { low = low; high = high; gives = amount; takes = 0 }

abbrev pub taking : ℕ → ℕ → ℕ → Bounded
taking low high amount = record { low = low; high = high; gives = 0; takes = amount }

abbrev pub reading : ℕ → ℕ → Bounded
reading low high = record { low = low; high = high; gives = 0; takes = 0 }

-- the bounds of an operation on numbers from 0 to max
abbrev pub op_bounds : ℕ → NumberOp → Bounded
op_bounds max (Take n) = taking n max n
op_bounds max (Short n) = reading 0 (n - 1)
op_bounds max (Give n) = giving 0 (max - n) n
op_bounds max (Full n) = reading (max - n + 1) max
op_bounds max (AtLeast n) = reading n max
op_bounds max (Below n) = reading 0 (n - 1)
op_bounds max (Value n) = reading n n

-- the amount of an operation is 1 to max, and a value is 0 to max
abbrev pub IsAmountOf : ℕ → NumberOp → Type 0
IsAmountOf max (Take n) = (1 ≤ n) × (n ≤ max)
IsAmountOf max (Short n) = (1 ≤ n) × (n ≤ max)
IsAmountOf max (Give n) = (1 ≤ n) × (n ≤ max)
IsAmountOf max (Full n) = (1 ≤ n) × (n ≤ max)
IsAmountOf max (AtLeast n) = (1 ≤ n) × (n ≤ max)
IsAmountOf max (Below n) = (1 ≤ n) × (n ≤ max)
IsAmountOf max (Value n) = n ≤ max

-- and so is the amount of a call that may have it
abbrev pub IsAmountFor : ℕ → NumberCall → ℕ → Type 0
IsAmountFor max calls.Value n = n ≤ max
IsAmountFor max _ n = (1 ≤ n) × (n ≤ max)

-- ---- which operation has which number

-- the operations of a call with an amount, in their order
abbrev pub ops_of_call : NumberCall → ℕ → List NumberOp
ops_of_call (calls.Take k) n = Take n ∷ Short n ∷ []
ops_of_call calls.TakeAny n = Take n ∷ Short n ∷ []
ops_of_call (calls.Give k) n = Give n ∷ Full n ∷ []
ops_of_call calls.GiveAny n = Give n ∷ Full n ∷ []
ops_of_call (calls.AtLeast k) n = AtLeast n ∷ Below n ∷ []
ops_of_call calls.Value n = Value n ∷ []

-- whether a call is listed that takes, or that gives, an amount
abbrev pub takes : ℕ → NumberCall → Bool
takes n (calls.Take k) = k == n
takes n _ = false

abbrev pub gives : ℕ → NumberCall → Bool
gives n (calls.Give k) = k == n
gives n _ = false

abbrev pub where_so : Bool → ℕ → Option ℕ
where_so so n = if so then Some n else None

-- the amount of a call of a number, which is told one or none: a call that lists its amount has that and is told none; `any` is told an
-- amount, and `value` a value
abbrev pub amount_for : ℕ → NumberCall → Option ℕ → Option ℕ
amount_for max (calls.Take k) None = Some k
amount_for max (calls.Give k) None = Some k
amount_for max (calls.AtLeast k) None = Some k
amount_for max calls.TakeAny (Some n) = where_so (is_amount max n) n
amount_for max calls.GiveAny (Some n) = where_so (is_amount max n) n
amount_for max calls.Value (Some n) = where_so (nat_le n max) n
amount_for max _ _ = None

-- the first or the second operation of a call
abbrev pub op_in : ℕ → ℕ → Option ℕ → NumberCall → Option NumberOp
op_in max second told call = option_and_then (λ n. slice_get (ops_of_call call n) second) (amount_for max call told)

-- the operation with a number: those without an amount are numbered in the order of the lines, two for each
abbrev pub op_at : Number → ℕ → Option NumberOp
op_at v p = option_and_then (op_in v.max (place_of p % 2) (amount_of p)) (slice_get v.calls (place_of p / 2))

-- an operation of `any` with an amount that another line lists is that line's: with the number here it is never done
abbrev pub is_elsewhere : Number → Option ℕ → NumberCall → Bool
is_elsewhere v (Some n) calls.TakeAny = list_any (takes n) v.calls
is_elsewhere v (Some n) calls.GiveAny = list_any (gives n) v.calls
is_elsewhere v _ _ = false

abbrev pub call_is_elsewhere : Number → Option ℕ → Option NumberCall → Bool
call_is_elsewhere v told None = false
call_is_elsewhere v told (Some call) = is_elsewhere v told call

-- a number above those of all operations
abbrev pub op_count : Number → ℕ
op_count v = places * (v.max + 2)

-- ---- the table

-- numbers that no operation has are those of nothing, which no call asks for and which is legal nowhere
abbrev pub names_or_none : Option NumberOp → Op
names_or_none None = op_with [] []
names_or_none (Some op) = op_names op

abbrev pub number_ops : Number → List Op
number_ops v = map (λ p. names_or_none (op_at v p)) (range_with_len 0 (op_count v))

abbrev pub bounds_or_none : ℕ → Option NumberOp → Bounded
bounds_or_none max None = nowhere
bounds_or_none max (Some op) = op_bounds max op

-- the operation that is done with a number
abbrev pub op_done : Number → ℕ → Option NumberOp
op_done v p = if call_is_elsewhere v (amount_of p) (slice_get v.calls (place_of p / 2)) then None else op_at v p

abbrev pub number_bounds : Number → List Bounded
number_bounds v = map (λ p. bounds_or_none v.max (op_done v p)) (range_with_len 0 (op_count v))

-- the table of a number, whose states are the numbers from 0 to the greatest. It is written nowhere
abbrev pub number_table : Number → Table
number_table v = record {
  name = v.name;
  states = v.max + 1;
  initial = v.initial;
  ops = number_ops v;
  steps = steps_of v.max (number_bounds v);
}

-- a number has that table, and its operations these bounds
abbrev pub NumberHasTable : Type 0
NumberHasTable = (v : Number) → IsNumber v → AreBounds (number_table v) v.max (number_bounds v)

-- and these are the bounds that the table's steps tell
abbrev pub NumberTellsBounds : Type 0
NumberTellsBounds = (v : Number) → IsNumber v → bounds_of (number_table v) ≡ number_bounds v

-- ---- the rows of its lines

-- the name of a call as its line has it
abbrev pub row_name : NumberCall → List ℕ
row_name (calls.Take k) = codes "take:" ++ decimal k
row_name calls.TakeAny = codes "take:any"
row_name (calls.Give k) = codes "give:" ++ decimal k
row_name calls.GiveAny = codes "give:any"
row_name (calls.AtLeast k) = codes "atleast:" ++ decimal k
row_name calls.Value = codes "value"

-- and its operations. Where `value` is answered, the number is in place of its `n`
abbrev pub rows_of_call : NumberCall → List Op
rows_of_call (calls.Take k) = op_with (row_name (calls.Take k)) (codes "ok") ∷ op_with (row_name (calls.Take k)) (codes "short") ∷ []
rows_of_call calls.TakeAny = op_with (row_name calls.TakeAny) (codes "ok") ∷ op_with (row_name calls.TakeAny) (codes "short") ∷ []
rows_of_call (calls.Give k) = op_with (row_name (calls.Give k)) (codes "ok") ∷ op_with (row_name (calls.Give k)) (codes "full") ∷ []
rows_of_call calls.GiveAny = op_with (row_name calls.GiveAny) (codes "ok") ∷ op_with (row_name calls.GiveAny) (codes "full") ∷ []
rows_of_call (calls.AtLeast k) = op_with (row_name (calls.AtLeast k)) (codes "yes") ∷ op_with (row_name (calls.AtLeast k)) (codes "no") ∷ []
rows_of_call calls.Value = op_with (row_name calls.Value) (codes "n") ∷ []

-- those of a number, by their places
abbrev pub number_rows : Number → List Op
number_rows v = flat_map rows_of_call v.calls

-- a number, and its rows
pub record IsWhole (v : Number) (held : List Op) : Type 0 where
  pub number : IsNumber v
  pub rows : held ≡ number_rows v
