-- Statements of laws of a script's turns.
use Rattle.store_limits.specs.declared.limits.Limits.{Limits}
use Rattle.std.specs.Prelude.{◌≡◌, ℕ, suc, ◌<◌, ◌≤◌, ◌^◌, List, [], ◌++◌, length, map, filter, take, Bool, false, true, Some, IfSome, Ok, slice_get}
use Rattle.std.specs.List.{AllByRecursion}
use Rattle.type_table.specs.Limits.{most_events}
use Rattle.type_table.specs.Operation.{amount_of, place_of}
use Rattle.type_table.specs.Table.{Table, has_op}
use Rattle.line_text.specs.Comments.{IsComment, lines_text, tells}
use Rattle.line_text.specs.Spelling.{spaced}
use Rattle.object_trait.specs.Object.{Object}
use Rattle.object_trait.specs.declared.event.Event.{Event}
use Rattle.object_trait.specs.declared.event.EventKind.TheVariants.{Abort}
use Rattle.serial_order.specs.History.{summary, is_open}
use Rattle.serial_order.specs.Machine.{IsRun}
use Rattle.serial_order.specs.Replay.{replay}
use Rattle.serial_order.specs.declared.command.Command.{Command}
use Rattle.store_text.specs.Named.{AreNamed}
use Rattle.store_text.specs.Size.{most_size}
use Rattle.store_text.specs.declared.line.ObjectLine.{ObjectLine}
use Rattle.store_text.specs.Body.{store_outcome}
use Rattle.history_text.specs.Canonical.{AreInRange, canonical_lines, canonical_text}
use Rattle.history_text.specs.Events.{history_body, is_event_amount, is_operation}
use Rattle.script_run.specs.Turns.{Turn, text_of_turns, history_after, command_turns, closing_turns, open_in, by_script, script_turns}

-- the history after the commands' turns is that of their replay
abbrev pub AllReplayed : Type 0
AllReplayed =
    (objects : List Object) (limits : Limits) (memory_refused : ℕ → Bool) (H : List Event) (commands : List Command)
    → history_after H (command_turns objects limits memory_refused H commands) ≡ replay objects limits memory_refused H (map (λ command. (0, command)) commands)

-- and that of each of them is the replay of the commands up to its own
abbrev pub EachReplayed : Type 0
EachReplayed =
    (objects : List Object) (limits : Limits) (memory_refused : ℕ → Bool) (H : List Event) (commands : List Command) (i : ℕ) (turn : Turn)
    → slice_get (command_turns objects limits memory_refused H commands) i ≡ Some turn
    → turn.history ≡ replay objects limits memory_refused H (map (λ command. (0, command)) (take (suc i) commands))

-- the closing turns append an abort of each open transaction, in ascending order
abbrev pub AllAborted : Type 0
AllAborted = (H : List Event) → history_after H (closing_turns H) ≡ H ++ map (λ t. by_script (Abort t)) (open_in H)

-- each of them its own, after those before it
abbrev pub EachAborted : Type 0
EachAborted =
    (H : List Event) (i : ℕ) (turn : Turn) → slice_get (closing_turns H) i ≡ Some turn
    → turn.history ≡ H ++ map (λ t. by_script (Abort t)) (take (suc i) (open_in H))

-- after which none is open
abbrev pub NoneStaysOpen : Type 0
NoneStaysOpen =
    (objects : List Object) (H : List Event) (t : ℕ) → IsRun objects H → is_open (summary (history_after H (closing_turns H))) t ≡ false

-- a turn whose line is no comment
abbrev pub turn_tells : Turn → Bool
turn_tells turn = tells (spaced turn.words)

-- a script's lines but for the comments are the canonical text of its history
abbrev pub TextTellsHistory : Type 0
TextTellsHistory =
    (objects : List Object) (limits : Limits) (memory_refused : ℕ → Bool) (kept : List ℕ) (lines : List ObjectLine) (commands : List Command)
    → let turns = script_turns objects limits memory_refused kept [] lines commands in
    text_of_turns (filter turn_tells turns) ≡ canonical_text lines (history_after [] turns)

-- a script's lines, and comments after them, are read as its history, where that is in range and kept states have 32 bits
abbrev pub ScriptIsRead : Type 0
ScriptIsRead =
    (objects : List Object) (limits : Limits) (memory_refused : ℕ → Bool) (kept : List ℕ) (lines : List ObjectLine) (commands : List Command) (behind : List (List ℕ))
    → let turns = script_turns objects limits memory_refused kept [] lines commands in
    let H = history_after [] turns in
    AreInRange lines H → length kept < 10 ^ 7 → AllByRecursion (λ state. state < 2 ^ 32) kept → AllByRecursion IsComment behind
    → store_outcome history_body (text_of_turns turns ++ lines_text behind) ≡ Ok (canonical_lines lines H)

-- its events are worker 0's
abbrev pub ScriptIsByOne : Type 0
ScriptIsByOne =
    (objects : List Object) (limits : Limits) (memory_refused : ℕ → Bool) (kept : List ℕ) (lines : List ObjectLine) (commands : List Command)
    → AllByRecursion (λ (e : Event). e.worker ≡ 0) (history_after [] (script_turns objects limits memory_refused kept [] lines commands))

-- an operation's place, and its amount where it has one, are in the ranges of a history's text
pub record IsOpInRange (k : ℕ) : Type 0 where
  pub place : is_operation (place_of k) ≡ true
  pub amount : IfSome (amount_of k) (λ n. is_event_amount n ≡ true)

-- and so are those of each operation of a table
abbrev pub AreOpsInRange : Table → Type 0
AreOpsInRange T = (k : ℕ) → has_op T k ≡ true → IsOpInRange k

-- what is known of the history of a run that a text may have: over objects whose operations are in its ranges, each named by a line, by
-- workers whose numbers a byte holds
pub record MayBeTold (lines : List ObjectLine) (objects : List Object) (H : List Event) : Type 0 where
  pub run : IsRun objects H
  pub ops_fit : (x : ℕ) (o : Object) → slice_get objects x ≡ Some o → AreOpsInRange o.table
  pub as_many : length objects ≡ length lines
  pub some_object : 0 < length lines
  pub objects_fit : length lines ≤ most_size
  pub files_fit : AllByRecursion (λ (o : ObjectLine). o.file < most_size) lines
  pub named : AreNamed lines
  pub events_fit : length H ≤ most_events
  pub workers_fit : AllByRecursion (λ (e : Event). e.worker ≤ 255) H

-- its numbers and counts are in the ranges of a history's text
abbrev pub RunIsInRange : Type 0
RunIsInRange = (lines : List ObjectLine) (objects : List Object) (H : List Event) → MayBeTold lines objects H → AreInRange lines H
