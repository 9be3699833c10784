-- The first operation of an operation's call.
use Rattle.std.proofs.Common.{◌≡◌, ℕ, Option, Some, None, sym, ap, ◌∙◌, arith}
use Rattle.type_table.specs.Table.{first_op, call_of}
use Rattle.number_types.specs.declared.number_op.NumberOp.{NumberOp}
use Rattle.number_types.specs.declared.number_op.NumberOp.TheVariants.{Take, Short, Give, Full, AtLeast, Below, Value}
use Rattle.number_types.specs.Number.{Number, IsNumber}
use Rattle.number_types.specs.Operations.{row_name, number_table, op_at, names_or_none, IsAmountOf}
use Rattle.number_types.specs.Named.{IsFirstFor, MayBeAsked, call_for}
use Rattle.number_types.proofs.Tables.{call_name, amounts_fit}
use Rattle.number_types.proofs.FirstOps.{names_alike, of_call}
use Rattle.number_types.proofs.NamedCalls.{named, some_name}

-- each operation's call may be asked for
may_ask : (v : Number) → IsNumber v → (op : NumberOp) → IsAmountOf v.max op → MayBeAsked (call_for op)
may_ask v known (Take n) fits = omega (arith, fits.1, known.max_fits)
may_ask v known (Short n) fits = omega (arith, fits.1, known.max_fits)
may_ask v known (Give n) fits = omega (arith, fits.1, known.max_fits)
may_ask v known (Full n) fits = omega (arith, fits.1, known.max_fits)
may_ask v known (AtLeast n) fits = omega (arith, fits.1, known.max_fits)
may_ask v known (Below n) fits = omega (arith, fits.1, known.max_fits)
may_ask v known (Value n) fits = tt

-- the first operation of the call of an operation answers what that asks
pub first_of_op : (v : Number) → IsNumber v → (c : ℕ) (op : NumberOp) (k : Option ℕ) → op_at v c ≡ Some op → IsFirstFor v (call_for op) k → first_op (number_table v) (call_of (number_table v) c) ≡ k
first_of_op v known c op k is first =
    let call = call_for op in
    let name : call_of (number_table v) c ≡ row_name call = call_name v c known ∙ ap (λ o. (names_or_none o).call) is ∙ names_alike op in
    ap (first_op (number_table v)) name ∙ sym (of_call v known (row_name call) (some_name call) call k (named call (may_ask v known op (amounts_fit v c op known is))) first)

-- what is no operation is of no call
pub first_of_none : (v : Number) → IsNumber v → (c : ℕ) → op_at v c ≡ None → first_op (number_table v) (call_of (number_table v) c) ≡ None
first_of_none v known c none = ap (first_op (number_table v)) (call_name v c known ∙ ap (λ o. (names_or_none o).call) none)
