-- How great the numbers of operations are.
use Rattle.std.proofs.Common.{◌≡◌, ℕ, ◌<◌, ◌≤◌, Bool, true, false, nat_lt, List, [], length, Some, None, sym, ap, ◌∙◌, inl, inr, arith}
use Rattle.std.specs.Prelude.{if◌then◌else◌, option_map, slice_get}
use Rattle.std.specs.List.{position}
use Rattle.std.specs.Str.{bytes_eq}
use Rattle.std.proofs.lemmas.Bool.{cases_lt, le-ltb, lt-ltb}
use Rattle.std.proofs.lemmas.List.FromFn.{length-map-range_with_len}
use Rattle.std.proofs.lemmas.List.Quantifiers.{position-Some}
use Rattle.std.proofs.lemmas.Option.{none-some, same_Some, slice_get-map}
use Rattle.type_table.specs.Table.{Table, first_op}
use Rattle.type_table.specs.declared.op.Op.{Op}
use Rattle.number_types.specs.Number.{Number, IsNumber}
use Rattle.number_types.specs.Operations.{names_or_none, number_ops, op_at, op_count}
use Rattle.table_checker.specs.Checked.{Checked}
use Rattle.object_trait.specs.Object.{object_of}
use Rattle.serial_order.specs.Replay.{call_at}
use Rattle.store_laws.specs.Stored.{Stored, objects}
use Rattle.library_calls.specs.Calls.{NumbersNone}
use Rattle.library_calls.specs.Operations.{operation_count, operation_by_number}

-- a number's table has no more than those that cross
pub few_of_number : (v : Number) → IsNumber v → length (number_ops v) ≤ operation_count
few_of_number v known =
    let count : length (number_ops v) ≡ op_count v = length-map-range_with_len (λ p. names_or_none (op_at v p)) 0 (op_count v) in
    omega (arith, count, known.max_fits)

-- a number that is no operation's is as great as all of them
pub far : (k : ℕ) → operation_by_number k ≡ None → operation_count ≤ k
far k none = elim (cases_lt k operation_count) [
  | inl below ↦ absurd (none-some k (sym none ∙ ap (λ b. if b then Some k else None) (lt-ltb k operation_count below)))
  | inr past ↦ past
]

-- and an operation's is its own
pub same_number : (k operation : ℕ) → operation_by_number k ≡ Some operation → operation ≡ k
same_number k operation is = elim (cases_lt k operation_count) [
  | inl below ↦ same_Some operation k (sym is ∙ ap (λ b. if b then Some k else None) (lt-ltb k operation_count below))
  | inr past ↦ absurd (none-some operation (sym (ap (λ b. if b then Some k else None) (le-ltb k operation_count past)) ∙ is))
]

-- ---- calls

-- the first operation of a call is one of the table
first_within : (T : Table) (name : List ℕ) (c : ℕ) (some : Bool) → (if some then position (λ (o : Op). bytes_eq o.call name) T.ops else None) ≡ Some c → c < length T.ops
first_within T name c true found = (position-Some (λ (o : Op). bytes_eq o.call name) T.ops c (record { call = []; reply = [] }) found).0
first_within T name c false found = absurd (none-some c found)

-- the calls at an object are those of its type
pub call_of_type : (s : Stored) (x : ℕ) (name : List ℕ) (checked : Checked) → slice_get s.types x ≡ Some checked → call_at (slice_get (objects s) x) name ≡ first_op checked.file.table name
call_of_type s x name checked there = ap (λ o. call_at o name) (slice_get-map object_of s.types x ∙ ap (option_map object_of) there)

-- so none there has a greater number
pub none_far : (s : Stored) (x c : ℕ) (checked : Checked) → slice_get s.types x ≡ Some checked → length checked.file.table.ops ≤ operation_count → operation_by_number c ≡ None → NumbersNone s x c
none_far s x c checked there few none name is =
    let T = checked.file.table in
    let below = first_within T name c (nat_lt 0 (length name)) (sym (call_of_type s x name checked there) ∙ is) in
    omega (arith, below, few, far c none)

-- and where there is no object there is none
pub none_nowhere : (s : Stored) (x c : ℕ) → slice_get s.types x ≡ None → NumbersNone s x c
none_nowhere s x c there name is =
    let at : call_at (slice_get (objects s) x) name ≡ None = ap (λ o. call_at o name) (slice_get-map object_of s.types x ∙ ap (option_map object_of) there) in
    none-some c (sym at ∙ is)
