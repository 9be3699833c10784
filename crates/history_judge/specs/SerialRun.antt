-- Transactions that are run one after another: what is kept of them, and when it agrees with what a history says they did.
use Rattle.std.specs.Prelude.{◌≡◌, ℕ, List, [], ◌∷◌, ◌++◌, length, take, Option, Some, None, slice_get}
use Rattle.type_table.specs.Table.{Table}
use Rattle.object_trait.specs.declared.event.Event.{Event}
use Rattle.history_judge.specs.declared.executed.Executed.{Executed}
use Rattle.history_judge.specs.Audit.{LeadToStates, IsFirstIllegal}
use Rattle.history_judge.specs.Replay.{ops_at, AreStates, AreReplayed}
use Rattle.history_judge.specs.declared.replay.Stop.{Stop}
use Rattle.history_judge.specs.declared.serial_run.Illegal.{Illegal}
use Rattle.history_judge.specs.declared.serial_run.SerialRun.{SerialRun}

-- each operation of these transactions is legal in their order, which leads to the states; or this is the first that isn't
abbrev pub RunsTo : List Table → List Event → List ℕ → List ℕ → Option Illegal → Type 0
RunsTo tables H ts states None = LeadToStates tables H ts states
RunsTo tables H ts states (Some p) = IsFirstIllegal tables H ts p.commit_index p.object p.op_index

-- what is kept agrees with the operations of these transactions, in their order
pub record IsSerialRunOf (tables : List Table) (H : List Event) (ts : List ℕ) (run : SerialRun) : Type 0 where
  pub ready : AreStates tables run.states.items
  pub order : run.illegal ≡ None → run.order.items ≡ ts
  pub leads : RunsTo tables H ts run.states.items run.illegal

-- each object's state is the initial one
pub record AreInitial (tables : List Table) (states : List ℕ) : Type 0 where
  pub ready : AreStates tables states
  pub initial : (x : ℕ) (T : Table) (s : ℕ) → slice_get tables x ≡ Some T → slice_get states x ≡ Some s → s ≡ T.initial

-- ---- one more transaction

-- the place of the operation at which the replay of the i-th transaction stopped; its own place is counted among the operations at
-- its object
abbrev pub illegal_at : ℕ → List Executed → Option Stop → Option Illegal
illegal_at i its None = None
illegal_at i its (Some q) = Some (record { commit_index = i; object = q.object; op_index = length (ops_at q.object (take q.place its)) })

-- the transaction's operations were replayed on the old states; it is the next in the order, and where an operation isn't legal its
-- place is kept
pub record ReplaysNext (tables : List Table) (t : ℕ) (its : List Executed) (old new : SerialRun) : Type 0 where
  pub stop : Option Stop
  pub replayed : AreReplayed tables old.states.items its (length its) new.states.items stop
  pub order : new.order.items ≡ old.order.items ++ t ∷ []
  pub illegal : new.illegal ≡ illegal_at (length old.order.items) its stop

-- after the first operation that isn't legal nothing is replayed
abbrev pub ReplaysFrom : Option Illegal → List Table → ℕ → List Executed → SerialRun → SerialRun → Type 0
ReplaysFrom None tables t its old new = ReplaysNext tables t its old new
ReplaysFrom (Some p) tables t its old new = new ≡ old
