-- Escrow: the line of each row of a type. Where the row's call takes any amount, or answers the number, the line has N for that.
use Rattle.std.specs.Prelude.{ℕ, ◌+◌, ◌-◌, ◌/◌, ◌%◌, List, [], ◌∷◌, ◌++◌, Option, None, Some, codes, slice_get, option_and_then}
use Rattle.std.specs.Fmt.{decimal}
use Rattle.std.specs.List.{flat_map}
use Rattle.escrow_laws.specs.declared.bounded.Bounded.{Bounded}
use Rattle.need_text.specs.Numeric.{bounds_line}
use Rattle.need_text.specs.Text.{listed_words}
use Rattle.number_types.specs.Number.{Number}
use Rattle.number_types.specs.Operations.{giving, number_rows, number_table, reading, taking}
use Rattle.number_types.specs.declared.number_call.NumberCall.{NumberCall}
use Rattle.number_types.specs.declared.number_call.NumberCall.TheVariants.{GiveAny, TakeAny, Value}
use Rattle.number_types.specs.declared.number_op.NumberOp.{NumberOp}
use Rattle.number_types.specs.declared.number_op.NumberOp.TheVariants as ops
use Rattle.declared_types.specs.declared.declared_type.Declaration.{Declaration}
use Rattle.declared_types.specs.declared.declared_type.Declaration.TheVariants.{Table, Number as Numbers}
use Rattle.type_table.specs.declared.op.Op.{Op}
use Rattle.type_commands.specs.declared.rows.AnyOp.{AnyOp}
use Rattle.type_commands.specs.declared.rows.AnyOp.TheVariants as any

-- ---- operations of which there is one for each amount

-- those of a call, in their order
abbrev pub any_ops : NumberCall → List AnyOp
any_ops TakeAny = any.Take ∷ any.Short ∷ []
any_ops GiveAny = any.Give ∷ any.Full ∷ []
any_ops Value = any.Value ∷ []
any_ops call = []

-- the one for an amount
abbrev pub op_for : ℕ → AnyOp → NumberOp
op_for n any.Take = ops.Take n
op_for n any.Short = ops.Short n
op_for n any.Give = ops.Give n
op_for n any.Full = ops.Full n
op_for n any.Value = ops.Value n

-- ---- their bounds, by the amount N

-- 0, or another number that is the same for each amount; N, and one less; a number less N, and one more than that
pub data Term : Type 0 where
  zero : Term
  same : ℕ → Term
  amount : Term
  before : Term
  left : ℕ → Term
  after_left : ℕ → Term

-- the number that it is for an amount
abbrev pub term_for : ℕ → Term → ℕ
term_for n zero = 0
term_for n (same m) = m
term_for n amount = n
term_for n before = n - 1
term_for n (left m) = m - n
term_for n (after_left m) = m - n + 1

-- and how it is written
abbrev pub term_text : Term → List ℕ
term_text zero = codes "0"
term_text (same m) = decimal m
term_text amount = codes "N"
term_text before = codes "N-1"
term_text (left m) = decimal m ++ codes "-N"
term_text (after_left m) = decimal m ++ codes "-N+1"

-- an operation gives the amount, or takes it, or moves nothing
pub data Move : Type 0 where
  up : Move
  down : Move
  still : Move

abbrev pub move_text : Move → List ℕ
move_text up = codes "+N"
move_text down = codes "-N"
move_text still = codes "0"

-- from where to where an operation is legal, and how it moves
pub record AnyBounds : Type 0 where
  pub low : Term
  pub high : Term
  pub move : Move

-- on numbers from 0 to max
abbrev pub any_bounds : ℕ → AnyOp → AnyBounds
any_bounds max any.Take = record { low = amount; high = same max; move = down }
any_bounds max any.Short = record { low = zero; high = before; move = still }
any_bounds max any.Give = record { low = zero; high = left max; move = up }
any_bounds max any.Full = record { low = after_left max; high = same max; move = still }
any_bounds max any.Value = record { low = amount; high = amount; move = still }

-- the bounds for an amount
abbrev pub moving_bounds : Move → ℕ → ℕ → ℕ → Bounded
moving_bounds up low high n = giving low high n
moving_bounds down low high n = taking low high n
moving_bounds still low high n = reading low high

abbrev pub bounds_for : ℕ → AnyBounds → Bounded
bounds_for n b = moving_bounds b.move (term_for n b.low) (term_for n b.high) n

-- ---- lines

-- after the name of a row
abbrev pub any_words : AnyBounds → List ℕ
any_words b = 32 ∷ term_text b.low ++ (32 ∷ term_text b.high ++ (32 ∷ move_text b.move))

-- of a row of these
abbrev pub any_line : List Op → ℕ → AnyBounds → List ℕ
any_line rows k b = codes "bounds" ++ (listed_words rows (k ∷ []) ++ (any_words b ++ 10 ∷ []))

-- the operation of a row whose call takes any amount, or answers the number: each call before `value` has two rows
abbrev pub any_op_at : Number → ℕ → Option AnyOp
any_op_at v k = option_and_then (λ call. slice_get (any_ops call) (k % 2)) (slice_get v.calls (k / 2))

-- a row of another call is an operation
abbrev pub number_row_line : Number → ℕ → Option AnyOp → List ℕ
number_row_line v k None = bounds_line (number_table v) k
number_row_line v k (Some op) = any_line (number_rows v) k (any_bounds v.max op)

-- the line of a row: each row of a table is an operation
abbrev pub type_row_line : Declaration → ℕ → List ℕ
type_row_line (Table file) k = bounds_line file.table k
type_row_line (Numbers v) k = number_row_line v k (any_op_at v k)

-- of these rows
abbrev pub rows_text : Declaration → List ℕ → List ℕ
rows_text declaration ks = flat_map (type_row_line declaration) ks
