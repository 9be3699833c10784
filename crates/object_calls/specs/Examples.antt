-- Small types and their calls, worked by hand.
use Rattle.std.specs.Prelude.{ℕ, List, [], ◌∷◌, Some, None, codes}
use Rattle.type_table.specs.Operation.{operation_at}
use Rattle.type_table.specs.Table.{Table}
use Rattle.type_table.specs.declared.op.Op.{Op}
use Rattle.object_calls.specs.declared.call.Call.{Call}
use Rattle.object_calls.specs.declared.call.NamedCall.{NamedCall}

-- an operation of this call that replies a digit
abbrev pub digit_op : List ℕ → List ℕ → Op
digit_op call digit = record { call = call; reply = digit }

-- a bit that can be read, and flipped with its old value as the reply: of each call the operation that replies 0, then each that replies 1
abbrev pub bit : Table
bit = record {
  name = codes "bit";
  states = 2;
  initial = 0;
  ops = digit_op (codes "read") (codes "0") ∷ digit_op (codes "flip") (codes "0") ∷ digit_op (codes "read") (codes "1") ∷ digit_op (codes "flip") (codes "1") ∷ [];
  steps = Some 0 ∷ Some 1 ∷ None ∷ None ∷ None ∷ None ∷ Some 1 ∷ Some 0 ∷ [];
}

-- operations 0 and 2
abbrev pub read : Call
read = record { first = 0; operations = 5 }

-- operations 1 and 3
abbrev pub flip : Call
flip = record { first = 1; operations = 10 }

abbrev pub bit_calls : List NamedCall
bit_calls = record { name = codes "read"; call = read } ∷ record { name = codes "flip"; call = flip } ∷ []

-- of the purse of `number_text` the call `value`: it is the fourth, so its line has the places 6 and 7
abbrev pub purse_value_call : Call
purse_value_call = record { first = operation_at 6 (Some 0); operations = 192 }
