-- The operations of one transaction, run on the states of the objects: where each is legal, and the first that isn't at the least
-- object that has one.
use Rattle.std.specs.Prelude.{◌≡◌, ℕ, ◌<◌, Bool, false, nat_le, ◌==◌, if◌then◌else◌, List, [], ◌∷◌, ◌++◌, length, map, filter, take, Option, Some, None, slice_get, slice_set}
use Rattle.std.specs.List.{AllByRecursion}
use Rattle.type_table.specs.Table.{Table, next}
use Rattle.type_table.specs.Run.{run, IsLegal}
use Rattle.serial_order.specs.History.{IsOperation}
use Rattle.history_judge.specs.declared.executed.Executed.{Executed}
use Rattle.history_judge.specs.declared.replay.Stop.{Stop}

-- the operations at x
abbrev pub ops_at : ℕ → List Executed → List ℕ
ops_at x its = map (λ o. o.k) (filter (λ o. o.x == x) its)

-- each is an operation of the table of an object that is there
abbrev pub AreOperations : List Table → List Executed → Type 0
AreOperations tables its = AllByRecursion (λ o. IsOperation (slice_get tables o.x) o.k) its

-- a state for each object, which is one of its table's
pub record AreStates (tables : List Table) (states : List ℕ) : Type 0 where
  pub as_many : length states ≡ length tables
  pub inside : (x : ℕ) (T : Table) (s : ℕ) → slice_get tables x ≡ Some T → slice_get states x ≡ Some s → s < T.states

-- ---- one operation

-- the next state, where there is a table and a state
abbrev pub next_by : Option Table → Option ℕ → ℕ → Option ℕ
next_by None s k = None
next_by (Some T) None k = None
next_by (Some T) (Some s) k = next T s k

-- the next state of the operation's object
abbrev pub next_at : List Table → List ℕ → Executed → Option ℕ
next_at tables states o = next_by (slice_get tables o.x) (slice_get states o.x) o.k

-- an operation at this object or at a lower one wasn't legal
abbrev pub is_stopped_at : Option Stop → ℕ → Bool
is_stopped_at None x = false
is_stopped_at (Some q) x = nat_le q.object x

-- the states with another one for x, where there is one
abbrev pub with_state : List ℕ → ℕ → Option ℕ → List ℕ
with_state states x None = states
with_state states x (Some s) = slice_set states x s

-- where it stops, by the next state
abbrev pub stop_by : Option Stop → ℕ → ℕ → Option ℕ → Option Stop
stop_by stop place x None = Some (record { object = x; place = place })
stop_by stop place x (Some s) = stop

-- what an operation makes of the states
abbrev pub states_after : List Table → List ℕ → Option Stop → Executed → List ℕ
states_after tables states stop o = if is_stopped_at stop o.x then states else with_state states o.x (next_at tables states o)

-- and where it stops, which is at the operation's place among the others where the operation isn't legal
abbrev pub stop_after : List Table → List ℕ → Option Stop → ℕ → Executed → Option Stop
stop_after tables states stop place o = if is_stopped_at stop o.x then stop else stop_by stop place o.x (next_at tables states o)

-- ---- all of them

-- from the old states: the operations at the object before this place are legal, and the one at this place isn't
pub record StopsReplayAt (tables : List Table) (old : List ℕ) (its : List Executed) (q : Stop) : Type 0 where
  pub table : Table
  pub from : ℕ
  pub operation : Executed
  pub object : slice_get tables q.object ≡ Some table
  pub state : slice_get old q.object ≡ Some from
  pub there : slice_get its q.place ≡ Some operation
  pub at : operation.x ≡ q.object
  pub legal : IsLegal table (Some from) (ops_at q.object (take q.place its))
  pub illegal : run table (Some from) (ops_at q.object (take q.place its) ++ operation.k ∷ []) ≡ None

-- the first n operations were run: at each object below that where it stopped, or at each where it didn't, its state is that after
-- its operations
pub record AreReplayed (tables : List Table) (old : List ℕ) (its : List Executed) (n : ℕ) (states : List ℕ) (stop : Option Stop) : Type 0 where
  pub states_are : (x : ℕ) (T : Table) (s : ℕ) → slice_get tables x ≡ Some T → slice_get old x ≡ Some s → is_stopped_at stop x ≡ false
      → run T (Some s) (ops_at x (take n its)) ≡ slice_get states x
  pub stopped : (q : Stop) → stop ≡ Some q → StopsReplayAt tables old its q
