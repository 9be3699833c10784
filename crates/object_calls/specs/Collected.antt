-- The calls of operations that come one after another, by the names of their calls in order.
use Rattle.std.specs.Prelude.{◌≡◌, ℕ, ◌<◌, Bool, true, ◌&&◌, ◌==◌, nat_lt, List, [], length, Option, Some, None, slice_get, slice_index_or}
use Rattle.std.specs.Int.{bit_at}
use Rattle.std.specs.List.{position}
use Rattle.std.specs.Str.{bytes_eq}
use Rattle.object_calls.specs.declared.call.NamedCall.{NamedCall}

-- operation k has this name
abbrev pub has_name : List (List ℕ) → List ℕ → ℕ → Bool
has_name names name k = nat_lt k (length names) && bytes_eq (slice_index_or names k []) name

-- the index of the call with this name
abbrev pub call_index : List NamedCall → List ℕ → Option ℕ
call_index calls name = position (λ n. bytes_eq n.name name) calls

-- a call has a name, its number is its first operation, and its word has the bit of each of its operations, and no other
pub record IsCallOf (names : List (List ℕ)) (n : NamedCall) : Type 0 where
  pub named : nat_lt 0 (length n.name) ≡ true
  pub first : position (λ name. bytes_eq name n.name) names ≡ Some n.call.first
  pub operations : (k : ℕ) → k < 64 → (bit_at n.call.operations k == 1) ≡ has_name names n.name k

-- each of these is a call, no two have the same name, and no other name is an operation's
pub record AreCallsOf (names : List (List ℕ)) (calls : List NamedCall) : Type 0 where
  pub each : (i : ℕ) (n : NamedCall) → slice_get calls i ≡ Some n → IsCallOf names n
  pub once : (i : ℕ) (n : NamedCall) → slice_get calls i ≡ Some n → call_index calls n.name ≡ Some i
  pub all : (name : List ℕ) → call_index calls name ≡ None → position (λ other. bytes_eq other name) names ≡ None
