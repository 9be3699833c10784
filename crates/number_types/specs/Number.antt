-- A type whose states are the numbers from 0 to a greatest one.
use Rattle.std.specs.Prelude.{◌≡◌, ℕ, ◌<◌, ◌≤◌, true, List, length}
use Rattle.std.specs.List.{list_all}
use Rattle.number_types.specs.declared.number_call.NumberCall.{NumberCall}
use Rattle.number_types.specs.Calls.{most_number, most_calls, is_within, are_ascending}

-- a number: its name, its greatest and its initial value, and its calls in the order of their lines
pub record Number : Type 0 where
  pub name : List ℕ
  pub max : ℕ
  pub initial : ℕ
  pub calls : List NumberCall

-- what is known of each number: the ranges of its parts, and that its calls ascend, so that none comes twice
pub record IsNumber (v : Number) : Type 0 where
  pub some_max : 1 ≤ v.max
  pub max_fits : v.max ≤ most_number
  pub initial_inside : v.initial ≤ v.max
  pub amounts : list_all (is_within v.max) v.calls ≡ true
  pub ascending : are_ascending v.calls ≡ true
  pub some_call : 0 < length v.calls
  pub calls_fit : length v.calls ≤ most_calls

-- the same number, beginning at another value
abbrev pub number_at : Number → ℕ → Number
number_at v s = record v { initial = s }
