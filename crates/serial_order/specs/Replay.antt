-- What becomes of a list of commands: which are refused, and which events come of the others.
use Rattle.std.specs.Prelude.{ℕ, suc, ◌+◌, List, [], ◌∷◌, ◌++◌, length, filter, Bool, not, ◌||◌, ◌==◌, nat_lt, nat_le, Option, Some, None, is_some, slice_get, if◌then◌else◌}
use Rattle.std.specs.List.{range_with_len}
use Rattle.store_limits.specs.declared.limits.Limits.{Limits}
use Rattle.type_table.specs.Table.{first_op}
use Rattle.object_trait.specs.Object.{Object}
use Rattle.object_trait.specs.declared.event.Event.{Event}
use Rattle.object_trait.specs.declared.event.EventKind.{EventKind}
use Rattle.object_trait.specs.declared.event.EventKind.TheVariants as kind
use Rattle.serial_order.specs.Operations.{of}
use Rattle.serial_order.specs.History.{Summary, summary, is_open}
use Rattle.serial_order.specs.Answer.{event_of_call}
use Rattle.serial_order.specs.declared.command.Command.{Command}
use Rattle.serial_order.specs.declared.command.Command.TheVariants.{Begin, Call, Commit, Abort, Rollback}
use Rattle.serial_order.specs.declared.refusal.Refusal.{Refusal}
use Rattle.serial_order.specs.declared.refusal.Refusal.TheVariants.{NotOpen, NoObject, NoCall, TooManyOpen, HistoryFull, BadRollback}

-- the number of open transactions
abbrev pub open_count : Summary → ℕ
open_count s = length (filter (is_open s) (range_with_len 0 s.begun))

-- a history has no room for this many further events and the end of each open transaction
abbrev pub is_history_full : Limits → List Event → ℕ → Bool
is_history_full limits H further = nat_lt limits.events (length H + open_count (summary H) + further)

-- the least operation of the call with this name at an object
abbrev pub call_at : Option Object → List ℕ → Option ℕ
call_at None name = None
call_at (Some o) name = first_op o.table name

-- why a command is refused: the first reason that holds
abbrev pub refusal : List Object → Limits → List Event → Command → Option Refusal
refusal objects limits H Begin =
    if nat_le limits.«open» (open_count (summary H)) then Some TooManyOpen
    else (if is_history_full limits H 2 then Some HistoryFull else None)
refusal objects limits H (Call t x name) =
    if not (is_open (summary H) t) then Some NotOpen
    else (if not (is_some (slice_get objects x)) then Some NoObject
    else (if not (is_some (call_at (slice_get objects x) name)) then Some NoCall
    else (if is_history_full limits H 1 then Some HistoryFull else None)))
refusal objects limits H (Commit t) = if not (is_open (summary H) t) then Some NotOpen else None
refusal objects limits H (Abort t) = if not (is_open (summary H) t) then Some NotOpen else None
refusal objects limits H (Rollback t n) =
    if not (is_open (summary H) t) then Some NotOpen
    else (if n == 0 || nat_lt (length (of t (summary H).survives)) n then Some BadRollback
    else (if is_history_full limits H 1 then Some HistoryFull else None))

-- the event of a call with this first operation, where there is one
abbrev pub call_event : Option Object → Summary → ℕ → ℕ → Option ℕ → Option EventKind
call_event None s x t c = None
call_event (Some o) s x t None = None
call_event (Some o) s x t (Some c) = Some (event_of_call o s x t c)

-- what comes of a command that isn't refused
abbrev pub event_of : List Object → Summary → Command → Option EventKind
event_of objects s Begin = Some (kind.Begin s.begun)
event_of objects s (Call t x name) = call_event (slice_get objects x) s x t (call_at (slice_get objects x) name)
event_of objects s (Commit t) = Some (kind.Commit t)
event_of objects s (Abort t) = Some (kind.Abort t)
event_of objects s (Rollback t n) = Some (kind.Rollback t n)

-- the history with the worker's event, where there is one
abbrev pub appended : List Event → ℕ → Option EventKind → List Event
appended H w None = H
appended H w (Some happened) = H ++ (record { worker = w; kind = happened }) ∷ []

-- the history after a command, which leaves it where it is refused
abbrev pub after_command : List Object → Limits → List Event → ℕ → Command → List Event
after_command objects limits H w command =
    if is_some (refusal objects limits H command) then H else appended H w (event_of objects (summary H) command)

-- the history after the workers' commands, in order from a place on. At the places of `memory_refused` memory was refused, and the history
-- was left as it was
abbrev pub replay_from : List Object → Limits → (ℕ → Bool) → ℕ → List Event → List (ℕ × Command) → List Event
replay_from objects limits memory_refused place H [] = H
replay_from objects limits memory_refused place H (c ∷ commands) =
    replay_from objects limits memory_refused (suc place) (if memory_refused place then H else after_command objects limits H (c.0) (c.1)) commands

abbrev pub replay : List Object → Limits → (ℕ → Bool) → List Event → List (ℕ × Command) → List Event
replay objects limits memory_refused H commands = replay_from objects limits memory_refused 0 H commands
