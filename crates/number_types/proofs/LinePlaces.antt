-- Which places have operations.
use Rattle.std.proofs.Common.{◌≡◌, ℕ, ◌/◌, ◌%◌, ◌<◌, ◌≤◌, true, length, Option, Some, None, is_some, refl, sym, ap, subst, ◌∙◌, arith}
use Rattle.std.specs.Prelude.{slice_get}
use Rattle.std.proofs.lemmas.Bool.{false≢true, le-leb}
use Rattle.std.proofs.lemmas.Option.{same_Some, slice_get_within}
use Rattle.type_table.specs.Operation.{operation_at, place-of-operation, amount-of-operation}
use Rattle.type_table.specs.Table.{HasPlace}
use Rattle.type_table.proofs.Elements.{element_at}
use Rattle.number_types.specs.declared.number_call.NumberCall.{NumberCall}
use Rattle.number_types.specs.declared.number_call.NumberCall.TheVariants as calls
use Rattle.number_types.specs.declared.number_op.NumberOp.{NumberOp}
use Rattle.number_types.specs.Number.{Number, IsNumber}
use Rattle.number_types.specs.Operations.{amount_for, ops_of_call, op_at, number_table}
use Rattle.number_types.proofs.Tables.{found, has_what_is_there}

-- the operation at a place, by its line and its amount
pub op_by_parts : (v : Number) (place : ℕ) (told : Option ℕ) (call : NumberCall) (n : ℕ) (op : NumberOp) → place < 256 → slice_get v.calls (place / 2) ≡ Some call → amount_for v.max call told ≡ Some n →
    slice_get (ops_of_call call n) (place % 2) ≡ Some op → op_at v (operation_at place told) ≡ Some op
op_by_parts v place told call n op small at amount is = rw (place-of-operation place told small, amount-of-operation place told small, at, amount) is

-- `value` has one operation, each other line two
pub ops_within : (call : NumberCall) (n second : ℕ) → second < 2 → (call ≡ calls.Value → second ≡ 0) → second < length (ops_of_call call n)
ops_within (calls.Take k) n second below first = omega arith
ops_within calls.TakeAny n second below first = omega arith
ops_within (calls.Give k) n second below first = omega arith
ops_within calls.GiveAny n second below first = omega arith
ops_within (calls.AtLeast k) n second below first = omega arith
ops_within calls.Value n second below first = let only = first refl in omega (arith, only)

pub only_of_value : (n second : ℕ) (op : NumberOp) → slice_get (ops_of_call calls.Value n) second ≡ Some op → second ≡ 0
only_of_value n second op is = let within = slice_get_within (ops_of_call calls.Value n) second op is in omega (arith, within)

-- an amount that may be said of a line
some_amount : (max : ℕ) (call : NumberCall) → 1 ≤ max → (told : Option ℕ) × (n : ℕ) × (amount_for max call told ≡ Some n)
some_amount max (calls.Take k) some = (None, k, refl)
some_amount max calls.TakeAny some = (Some 1, 1, rw (le-leb 1 max some) refl)
some_amount max (calls.Give k) some = (None, k, refl)
some_amount max calls.GiveAny some = (Some 1, 1, rw (le-leb 1 max some) refl)
some_amount max (calls.AtLeast k) some = (None, k, refl)
some_amount max calls.Value some = (Some 0, 0, rw (le-leb 0 max (omega arith)) refl)

-- each place of a line has an operation, the second of `value` alone has none
pub place_has : (v : Number) (place : ℕ) → IsNumber v → place < 256 → place / 2 < length v.calls → (slice_get v.calls (place / 2) ≡ Some calls.Value → place % 2 ≡ 0) → HasPlace (number_table v) place
place_has v place known small below first =
    let line = element_at v.calls (place / 2) below in
    let amount = some_amount v.max line.0 known.some_max in
    let within = ops_within line.0 amount.1 (place % 2) (omega arith) (λ same. first (line.1 ∙ ap Some same)) in
    let there = element_at (ops_of_call line.0 amount.1) (place % 2) within in
    let k = operation_at place amount.0 in
    let is = op_by_parts v place amount.0 line.0 amount.1 there.0 small line.1 amount.2 there.1 in
    (k, place-of-operation place amount.0 small, sym (has_what_is_there v k known) ∙ ap is_some is)

pub place_from : (v : Number) (place : ℕ) → IsNumber v → HasPlace (number_table v) place → (place / 2 < length v.calls) × (slice_get v.calls (place / 2) ≡ Some calls.Value → place % 2 ≡ 0)
place_from v place known has = go (op_at v has.0) refl (has_what_is_there v has.0 known ∙ has.2)
  where
    go : (o : Option NumberOp) → op_at v has.0 ≡ o → is_some o ≡ true → (place / 2 < length v.calls) × (slice_get v.calls (place / 2) ≡ Some calls.Value → place % 2 ≡ 0)
    go None is there = absurd (false≢true there)
    go (Some op) is there =
        let f = found v has.0 op is in
        let at = subst (λ p. slice_get v.calls (p / 2) ≡ Some f.call) has.1 f.at in
        let op_is = subst (λ p. slice_get (ops_of_call f.call f.n) (p % 2) ≡ Some op) has.1 f.op_is in
        (slice_get_within v.calls (place / 2) f.call at, λ value. only_of_value f.n (place % 2) op (subst (λ call. slice_get (ops_of_call call f.n) (place % 2) ≡ Some op) (same_Some f.call calls.Value (sym at ∙ value)) op_is))
