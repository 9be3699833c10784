-- The calls of the worked types.
use Rattle.std.proofs.Common.{◌≡◌, ℕ, ◌≤◌, [], ◌∷◌, length, codes, lit<, Some, refl, sym, arith}
use Rattle.std.proofs.lemmas.Bool.{false≢true}
use Rattle.type_table.specs.Limits.{most_ops}
use Rattle.type_table.specs.Table.{call_of, first_op}
use Rattle.number_types.specs.declared.number_call.NumberCall.TheVariants as calls
use Rattle.std.specs.List.{position}
use Rattle.type_table.specs.Operation.{operation_at}
use Rattle.number_types.specs.Calls.{most_number}
use Rattle.number_types.specs.Named.{answers}
use Rattle.number_types.specs.Examples.{purse}
use Rattle.number_types.specs.Operations.{row_name, number_table}
use Rattle.number_types.proofs.FirstNamed.{first_again}
use Rattle.number_types.proofs.NamedCalls.{first_by_name}
use Rattle.number_types.proofs.PurseExamples.{purse_is}
use Rattle.object_calls.specs.Calls.{HasOperations, IsCall, IsCallTable}
use Rattle.object_calls.specs.Collected.{AreCallsOf}
use Rattle.object_calls.specs.Examples.{bit, read, flip, bit_calls, purse_value_call}
use Rattle.object_calls.proofs.CollectedCalls.{known_is_added, first_is_added, begun}
use Rattle.object_calls.proofs.NumberCalls.{line_word, line_is_call, many_ops}
use Rattle.object_calls.proofs.Tabled.{names_of, none_collected, is_call_table}

-- collected operation by operation
begun_read : AreCallsOf (codes "read" ∷ []) (begun (codes "read") 0 ∷ [])
begun_read = first_is_added [] [] none_collected (codes "read") refl refl 0 refl (lit< tt)

begun_flip : AreCallsOf (codes "read" ∷ codes "flip" ∷ []) (begun (codes "read") 0 ∷ begun (codes "flip") 1 ∷ [])
begun_flip = first_is_added _ _ begun_read (codes "flip") refl refl 1 refl (lit< tt)

with_read : AreCallsOf (codes "read" ∷ codes "flip" ∷ codes "read" ∷ []) (record { name = codes "read"; call = read } ∷ begun (codes "flip") 1 ∷ [])
with_read = known_is_added _ _ begun_flip (codes "read") 0 refl (begun (codes "read") 0) refl 2 refl (lit< tt)

with_flip : AreCallsOf (names_of bit.ops) bit_calls
with_flip = known_is_added _ _ with_read (codes "flip") 1 refl (begun (codes "flip") 1) refl 3 refl (lit< tt)

-- no more operations than a table may have
pub bit_few : length bit.ops ≤ most_ops
bit_few = omega arith

pub bit_call_table : IsCallTable bit bit_calls
bit_call_table = is_call_table bit bit_few bit_calls with_flip

pub read_call : IsCall bit read
read_call = bit_call_table.of_name (codes "read") read refl

pub flip_call : IsCall bit flip
flip_call = bit_call_table.of_name (codes "flip") flip refl

-- words that differ from a call's in one operation
pub read_missing : HasOperations bit 0 1 → ⊥
read_missing h = false≢true (h 2 (lit< tt))

pub flip_in_read : HasOperations bit 0 7 → ⊥
flip_in_read h = false≢true (sym (h 1 (lit< tt)))

pub past_all : HasOperations bit 0 21 → ⊥
past_all h = false≢true (sym (h 4 (lit< tt)))

pub calls_missing : IsCallTable bit [] → ⊥
calls_missing h = false≢true (h.numbered (codes "flip") 1 refl)

-- ---- a number

-- `value` is first found with the amount 0
value_first : first_op (number_table purse) (call_of (number_table purse) purse_value_call.first) ≡ Some purse_value_call.first
value_first = first_again (number_table purse) (row_name calls.Value) purse_value_call.first (first_by_name purse purse_is calls.Value tt 3 calls.Value refl refl)

pub value_call : IsCall (number_table purse) purse_value_call
value_call = line_is_call purse purse_value_call purse_value_call.first refl value_first (line_word 6 (lit< tt))

-- its word has both places of its line
pub value_half : IsCall (number_table purse) (record { first = purse_value_call.first; operations = 64 }) → ⊥
value_half h = false≢true (h.line (many_ops purse) 7 (lit< tt))

-- each amount of `take any` that isn't listed has a call of its own
pub take_first : (n : ℕ) → n ≤ most_number → position (answers purse.max (calls.Take n)) purse.calls ≡ Some 1
    → first_op (number_table purse) (call_of (number_table purse) (operation_at 2 (Some n))) ≡ Some (operation_at 2 (Some n))
take_first n fits at = first_again (number_table purse) (row_name (calls.Take n)) (operation_at 2 (Some n)) (first_by_name purse purse_is (calls.Take n) fits 1 calls.TakeAny at refl)
