-- Small histories whose audit was worked by hand, and the rows that agree with one of them.
use Rattle.std.specs.Prelude.{ℕ, List, [], ◌∷◌, Option, None, Some}
use Rattle.type_table.specs.Operation.{operation_at}
use Rattle.type_table.specs.Table.{Table}
use Rattle.type_table.specs.Examples.{counter_table}
use Rattle.number_types.specs.Examples.{purse}
use Rattle.number_types.specs.Operations.{number_table}
use Rattle.object_trait.specs.declared.event.Event.{Event}
use Rattle.object_trait.specs.declared.event.EventKind.{EventKind}
use Rattle.object_trait.specs.declared.event.EventKind.TheVariants.{Begin, Op, Commit, Rollback}
use Rattle.serial_order.specs.Examples.{events}
use Rattle.history_judge.specs.declared.executed.Executed.{Executed}
use Rattle.history_judge.specs.declared.replay.Stop.{Stop}
use Rattle.history_judge.specs.Audit.{IsFirstBad}

-- two objects, both counters: operation 0 counts up and 1 down
abbrev pub two_counters : List Table
two_counters = counter_table ∷ counter_table ∷ []

-- operation k at object x
abbrev pub operation : ℕ → ℕ → Executed
operation x k = record { x = x; k = k }

-- one counts up and takes two operations back, where it has one
abbrev pub too_many_history : List Event
too_many_history = events (Begin 0 ∷ Op 0 0 0 ∷ Rollback 0 2 ∷ [])

-- one counts down at object 1, and then at object 0 up, down and down, and commits: both last downs aren't legal
abbrev pub two_stops_history : List Event
two_stops_history = events (Begin 0 ∷ Op 1 0 1 ∷ Op 0 0 0 ∷ Op 1 0 0 ∷ Op 1 0 0 ∷ Commit 0 ∷ [])

-- its operations
abbrev pub two_stops : List Executed
two_stops = operation 1 1 ∷ operation 0 0 ∷ operation 0 1 ∷ operation 0 1 ∷ []

abbrev pub down_at : ℕ → Executed
down_at x = operation x 1

abbrev pub up_at : ℕ → Executed
up_at x = operation x 0

abbrev pub stop_at : ℕ → ℕ → Stop
stop_at x place = record { object = x; place = place }

-- one counts up at both counters while another begins and commits
abbrev pub two_ups_events : List Event
two_ups_events = events (Begin 0 ∷ Op 0 0 1 ∷ Begin 1 ∷ Op 0 0 0 ∷ Commit 1 ∷ [])

-- its rows: transaction 0 has two operations, and transaction 1 ended
abbrev pub two_ups_rows : List (Option (List Executed))
two_ups_rows = Some (operation 1 0 ∷ operation 0 0 ∷ []) ∷ None ∷ []

-- the rows where the last operation is struck
abbrev pub one_up_rows : List (Option (List Executed))
one_up_rows = Some (operation 1 0 ∷ []) ∷ None ∷ []

-- ---- a number

-- the purse of 0 to 9, which begins at 0. It lists to take 3; any other amount may be taken and any given, and it may be read
abbrev pub one_purse : List Table
one_purse = number_table purse ∷ []

abbrev pub take_any : ℕ → ℕ
take_any n = operation_at 2 (Some n)

abbrev pub give_any : ℕ → ℕ
give_any n = operation_at 4 (Some n)

abbrev pub purse_value : ℕ → ℕ
purse_value n = operation_at 6 (Some n)

-- one gives 7 and takes 2, while another gives 1 and commits first; then a third reads 6 and takes 3
abbrev pub purse_history : List Event
purse_history =
    events (Begin 0 ∷ Op (give_any 7) 0 0 ∷ Begin 1 ∷ Op (give_any 1) 1 0 ∷ Op (take_any 2) 0 0 ∷ Commit 1 ∷ Commit 0
    ∷ Begin 2 ∷ Op (purse_value 6) 2 0 ∷ Op 0 2 0 ∷ Commit 2 ∷ [])

-- one gives 5, another takes 4 and commits first
abbrev pub early_history : List Event
early_history = events (Begin 0 ∷ Op (give_any 5) 0 0 ∷ Begin 1 ∷ Op (take_any 4) 1 0 ∷ Commit 1 ∷ Commit 0 ∷ [])

-- the purse's first transaction has begun, and this can't follow
abbrev pub IsBadFirst : EventKind → Type 0
IsBadFirst event = IsFirstBad one_purse (events (Begin 0 ∷ event ∷ [])) 1

-- one counts up at a counter, and says an amount
abbrev pub amount_history : List Event
amount_history = events (Begin 0 ∷ Op (operation_at 0 (Some 1)) 0 0 ∷ [])
