-- What is kept of events, a row for each transaction that began, and when it agrees with what they say.
use Rattle.std.specs.Prelude.{◌≡◌, ℕ, List, map, length, Option, Some, None, is_some, slice_get}
use Rattle.object_trait.specs.declared.event.EventKind.{EventKind}
use Rattle.object_trait.specs.declared.event.EventKind.TheVariants.{Commit}
use Rattle.serial_order.specs.Operations.{of}
use Rattle.serial_order.specs.History.{Summary, is_open}
use Rattle.serial_order.specs.After.{AreInRun}
use Rattle.serial_order.specs.declared.entry.Entry.{Entry}
use Rattle.history_judge.specs.declared.executed.Executed.{Executed}

-- an operation without its transaction
abbrev pub executed_of : Entry → Executed
executed_of e = record { x = e.at; k = e.op }

-- the operations of t that survive, over all objects, in the order in which they were executed
abbrev pub operations_of : ℕ → Summary → List Executed
operations_of t s = map executed_of (of t s.survives)

-- the row of the transaction t: none where it isn't open, else its operations that survive
pub record IsRowOf (row : Option (List Executed)) (t : ℕ) (s : Summary) : Type 0 where
  pub going : is_some row ≡ is_open s t
  pub operations : (its : List Executed) → row ≡ Some its → its ≡ operations_of t s

-- there is a row for each transaction that began; and of the transactions it is known what is known of those of every run, among it
-- that what ended or executed operations began
pub record AreRowsOf (rows : List (Option (List Executed))) (s : Summary) : Type 0 where
  pub known : AreInRun s
  pub begun : length rows ≡ s.begun
  pub each : (t : ℕ) (row : Option (List Executed)) → slice_get rows t ≡ Some row → IsRowOf row t s

-- what a commit commits
abbrev pub committed_in : EventKind → Summary → Option (List Executed)
committed_in (Commit t) s = Some (operations_of t s)
committed_in _ s = None
