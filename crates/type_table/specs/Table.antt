-- A type of shared objects, as a finite table (Weihl's serial specification, with finitely many states).
use Rattle.std.specs.Prelude.{◌≡◌, ℕ, ◌+◌, ◌*◌, ◌<◌, ◌≤◌, Bool, false, true, not, List, [], length, map, nat_lt, if◌then◌else◌, Option, Some, None, slice_get, slice_index_or, option_and_then}
use Rattle.std.specs.List.{list_all, position}
use Rattle.std.specs.Str.{bytes_eq}
use Rattle.type_table.specs.Limits.{most_states, most_ops}
use Rattle.type_table.specs.Op.{has_twin}
use Rattle.type_table.specs.Operation.{place_of}
use Rattle.type_table.specs.Counts.{has_counts, is_inside}
use Rattle.type_table.specs.declared.op.Op.{Op}
use Rattle.type_table.specs.declared.table_error.TableError.{TableError}
use Rattle.type_table.specs.declared.table_error.TableError.TheVariants.{BadCount, BadInitial, BadStep, TwiceOp}

-- its name, its number of states, the initial state, the operations in order, and the steps: the entry of
-- state s and operation k is at s * (number of operations) + k, and is None where k isn't legal in s
pub record Table : Type 0 where
  pub name : List ℕ
  pub states : ℕ
  pub initial : ℕ
  pub ops : List Op
  pub steps : List (Option ℕ)

-- the same type, beginning at another state
abbrev pub table_at : Table → ℕ → Table
table_at T s = record T { initial = s }

-- the next state, where operation k is legal in state s
unfoldable pub next : Table → ℕ → ℕ → Option ℕ
next T s k = if nat_lt k (length T.ops) then option_and_then (λ entry. entry) (slice_get T.steps (s * length T.ops + k)) else None

-- entries that say the next state of each state under each operation
abbrev pub AreSteps : Table → List (Option ℕ) → Type 0
AreSteps T steps = (s k : ℕ) → s < T.states → k < length T.ops → slice_get steps (s * length T.ops + k) ≡ Some (next T s k)

-- ---- calls

-- the name of the call of operation k
abbrev pub call_of : Table → ℕ → List ℕ
call_of T k = slice_index_or (map (λ (o : Op). o.call) T.ops) k []

-- the operation is one of the type's. A number of the table without a name is that of no operation
abbrev pub has_op : Table → ℕ → Bool
has_op T k = nat_lt 0 (length (call_of T k))

-- operation k, where it is one of the type's
abbrev pub op_of : Table → ℕ → Option Op
op_of T k = if has_op T k then slice_get T.ops k else None

-- some operation has this place
abbrev pub HasPlace : Table → ℕ → Type 0
HasPlace T place = (k : ℕ) × (place_of k ≡ place) × (has_op T k ≡ true)

-- the first operation whose call has this name
abbrev pub first_op : Table → List ℕ → Option ℕ
first_op T name = if nat_lt 0 (length name) then position (λ (o : Op). bytes_eq o.call name) T.ops else None

-- two operations are of one call
abbrev pub is_same_call : Table → ℕ → ℕ → Bool
is_same_call T k c = bytes_eq (call_of T k) (call_of T c)

-- ---- what makes a table

-- why it is no table: the first reason that holds
unfoldable pub table_fault : Table → Option TableError
table_fault T =
    if not (has_counts T.states (length T.ops) (length T.steps)) then Some BadCount
    else (if not (nat_lt T.initial T.states) then Some BadInitial
    else (if not (list_all (is_inside T.states) T.steps) then Some BadStep
    else (if has_twin T.ops then Some TwiceOp else None)))

-- what is known of each table
pub record IsTable (T : Table) : Type 0 where
  pub some_states : 0 < T.states
  pub states_fit : T.states ≤ most_states
  pub some_ops : 0 < length T.ops
  pub ops_fit : length T.ops ≤ most_ops
  pub whole : length T.steps ≡ T.states * length T.ops
  pub initial_inside : T.initial < T.states
  pub steps_inside : list_all (is_inside T.states) T.steps ≡ true
  pub no_twin : has_twin T.ops ≡ false
