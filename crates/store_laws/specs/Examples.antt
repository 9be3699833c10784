-- Small stores, worked by hand.
use Rattle.store_limits.specs.Standard.{standard_with}
use Rattle.std.specs.Prelude.{ℕ, List, [], ◌∷◌, take, Option, Some, None, codes}
use Rattle.type_table.specs.declared.kind.Kind.TheVariants.{Undo, Intentions}
use Rattle.table_checker.specs.Checked.{Checked, IsChecked}
use Rattle.table_checker.specs.Examples.{counter_file}
use Rattle.object_trait.specs.Examples as object
use Rattle.object_trait.specs.declared.event.Event.{Event}
use Rattle.object_trait.specs.declared.event.EventKind.TheVariants.{Begin, Op, Commit, Rollback}
use Rattle.serial_order.specs.declared.command.Command.{Command}
use Rattle.serial_order.specs.declared.command.Command.TheVariants as command
use Rattle.serial_order.specs.declared.refusal.Refusal.{Refusal}
use Rattle.serial_order.specs.declared.refusal.Refusal.TheVariants.{NotOpen, NoMemory}
use Rattle.store_laws.specs.Stored.{Stored}
use Rattle.store_laws.specs.Asked.{AskedCommand}
use Rattle.open_transactions.specs.Transactions.{Row}
use Rattle.store_laws.specs.Kept.{Keeping}

-- ---- how examples are written

-- the counter, update in place
abbrev pub undo_counter_type : Checked
undo_counter_type = (record { kind = Undo; file = counter_file })

-- the counter, deferred update
abbrev pub deferred_counter_type : Checked
deferred_counter_type = (record { kind = Intentions; file = counter_file })

-- the checker says yes for both
abbrev pub AreAccepted : Type 0
AreAccepted = IsChecked undo_counter_type × IsChecked deferred_counter_type

-- an open transaction that worker 7 began
abbrev pub by_seven : List ℕ → Row
by_seven places = record { worker = 7; places = places }

-- ---- one transaction counts up at the second of two counters, and commits

abbrev pub one_up : List Event
one_up =
    (record { worker = 7; kind = Begin 0 }) ∷ (record { worker = 7; kind = Op 0 0 1 }) ∷ (record { worker = 7; kind = Commit 0 }) ∷ []

-- before it
abbrev pub new_counters : Keeping
new_counters = record { meanings = object.counter_at Undo 0 [] ∷ object.counter_at Intentions 0 [] ∷ []; rows = [] }

-- when it began
abbrev pub counters_begun : Keeping
counters_begun = record new_counters { rows = Some (by_seven []) ∷ [] }

-- when it had counted up
abbrev pub counted : Keeping
counted = record {
  meanings = object.counter_at Undo 0 [] ∷ object.counter_at Intentions 0 (object.held 0 0 ∷ []) ∷ [];
  rows = Some (by_seven (1 ∷ [])) ∷ [];
}

-- when it had committed
abbrev pub committed : Keeping
committed = record {
  meanings = object.counter_at Undo 0 [] ∷ object.counter_at Intentions 1 [] ∷ [];
  rows = None ∷ [];
}

-- ---- a rollback over two objects

-- worker 3 begins a transaction, and worker 7 another, which counts up at each of two objects and takes the last back
abbrev pub one_back : List Event
one_back =
    (record { worker = 3; kind = Begin 0 }) ∷ (record { worker = 7; kind = Begin 1 }) ∷ (record { worker = 7; kind = Op 0 1 0 })
    ∷ (record { worker = 7; kind = Op 0 1 1 }) ∷ (record { worker = 7; kind = Rollback 1 1 }) ∷ []

-- ---- as its callers see it

-- the two counters with this history, and room for four events
abbrev pub stored : List Event → Stored
stored H = record { types = undo_counter_type ∷ deferred_counter_type ∷ []; history = H; limits = standard_with 4; forgotten = 0 }

-- worker 7 asked a command, which left this history
abbrev pub by_worker : Command → Option Refusal → List Event → AskedCommand
by_worker command reason H = record { worker = 7; command = command; reason = reason; left = stored H }

-- a begin for which memory is refused, and then the transaction, whose commit is asked twice
abbrev pub up_and_again : List AskedCommand
up_and_again =
    by_worker command.Begin (Some NoMemory) [] ∷ by_worker command.Begin None (take 1 one_up) ∷ by_worker (command.Call 0 1 (codes "inc:1")) None (take 2 one_up)
    ∷ by_worker (command.Commit 0) None one_up ∷ by_worker (command.Commit 0) (Some NotOpen) one_up ∷ []
