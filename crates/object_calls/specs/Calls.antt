-- The calls of a type: of each, its name, its first operation, and the places of its operations as a word of bits.
use Rattle.std.specs.Prelude.{◌≡◌, All, ℕ, ◌<◌, ◌≤◌, ◌/◌, ◌&&◌, ◌==◌, nat_lt, List, length, true, Option, Some, is_some}
use Rattle.std.specs.Int.{bit_at}
use Rattle.std.specs.List.{find}
use Rattle.std.specs.Option.{option_map}
use Rattle.std.specs.Str.{bytes_eq}
use Rattle.type_table.specs.Limits.{most_ops}
use Rattle.type_table.specs.Operation.{place_of}
use Rattle.type_table.specs.Table.{Table, call_of, first_op, is_same_call}
use Rattle.object_calls.specs.declared.call.Call.{Call}
use Rattle.object_calls.specs.declared.call.NamedCall.{NamedCall}

-- the word has the bit of each operation of the call whose number is c, and no other
abbrev pub HasOperations : Table → ℕ → ℕ → Type 0
HasOperations T c word = (k : ℕ) → k < 64 → (bit_at word k == 1) ≡ (nat_lt k (length T.ops) && is_same_call T k c)

-- the word has the bits of the two places of a line, and no other
abbrev pub HasLine : ℕ → ℕ → Type 0
HasLine place word = (k : ℕ) → k < 64 → (bit_at word k == 1) ≡ (k / 2 == place / 2)

-- a call of the type: its number is its least operation. With as many operations as a table may have, its word has the bit of each of them;
-- a number has more: then it has those of the call's line
pub record IsCall (T : Table) (call : Call) : Type 0 where
  pub least : first_op T (call_of T call.first) ≡ Some call.first
  pub operations : length T.ops ≤ most_ops → HasOperations T call.first call.operations
  pub line : most_ops < length T.ops → HasLine (place_of call.first) call.operations

-- the call that is found by a name, and by a number
abbrev pub by_name : List NamedCall → List ℕ → Option Call
by_name calls name = option_map (λ n. n.call) (find (λ n. bytes_eq n.name name) calls)

abbrev pub by_number : List NamedCall → ℕ → Option Call
by_number calls c = option_map (λ n. n.call) (find (λ n. n.call.first == c) calls)

-- each call of a table is found, by its name and by its number, and nothing else
pub record IsCallTable (T : Table) (calls : List NamedCall) : Type 0 where
  pub named : (name : List ℕ) → option_map (λ c. c.first) (by_name calls name) ≡ first_op T name
  pub of_name : (name : List ℕ) (call : Call) → by_name calls name ≡ Some call → IsCall T call
  pub numbered : (name : List ℕ) (c : ℕ) → first_op T name ≡ Some c → is_some (by_number calls c) ≡ true
  pub of_number : (c : ℕ) (call : Call) → by_number calls c ≡ Some call → IsCall T call

-- a call by its name
pub record IsNamedCall (T : Table) (n : NamedCall) : Type 0 where
  pub named : first_op T n.name ≡ Some n.call.first
  pub call : IsCall T n.call

-- the calls of a type that are held: of a table all of them, of a number some, and the others are worked out when they are asked for
pub record HoldsCalls (T : Table) (calls : List NamedCall) : Type 0 where
  pub all : length T.ops ≤ most_ops → IsCallTable T calls
  pub some : most_ops < length T.ops → All (IsNamedCall T) calls
