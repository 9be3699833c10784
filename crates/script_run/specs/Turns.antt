-- The text of a running script, turn by turn: each line, and the history that is there when it is written.
use Rattle.store_limits.specs.declared.limits.Limits.{Limits}
use Rattle.std.specs.Prelude.{ℕ, suc, List, [], ◌∷◌, ◌++◌, map, filter, Bool, Option, Some, None, if◌then◌else◌}
use Rattle.std.specs.List.{flat_map, range_with_len}
use Rattle.line_text.specs.Spelling.{spaced}
use Rattle.object_trait.specs.Object.{Object}
use Rattle.object_trait.specs.declared.event.Event.{Event}
use Rattle.object_trait.specs.declared.event.EventKind.{EventKind}
use Rattle.object_trait.specs.declared.event.EventKind.TheVariants.{Abort}
use Rattle.serial_order.specs.History.{summary, is_open}
use Rattle.serial_order.specs.Replay.{refusal, event_of}
use Rattle.serial_order.specs.declared.command.Command.{Command}
use Rattle.serial_order.specs.declared.refusal.Refusal.{Refusal}
use Rattle.serial_order.specs.declared.refusal.Refusal.TheVariants.{NoMemory}
use Rattle.store_text.specs.Kept.{size_lines}
use Rattle.store_text.specs.declared.line.Line.{Line}
use Rattle.store_text.specs.declared.line.ObjectLine.{ObjectLine}
use Rattle.history_text.specs.Canonical.{canonical_size, words_of}
use Rattle.history_text.specs.declared.event_line.EventLine.{EventLine}
use Rattle.script_run.specs.Lines.{object_words, event_turn_words, end_words, refused_words, kept_words}

-- ---- a turn

-- a line by its words, and the history when it is written
pub record Turn : Type 0 where
  pub words : List (List ℕ)
  pub history : List Event

-- the line: one space between two words, and a LF
abbrev pub line_of : Turn → List ℕ
line_of turn = spaced turn.words ++ 10 ∷ []

-- the lines of some turns
abbrev pub text_of_turns : List Turn → List ℕ
text_of_turns turns = flat_map line_of turns

-- the history when these turns are over
abbrev pub history_after : List Event → List Turn → List Event
history_after H [] = H
history_after H (turn ∷ turns) = history_after turn.history turns

-- ---- one command

-- an event of worker 0, who asks for all that a script asks
abbrev pub by_script : EventKind → Event
by_script happened = record { worker = 0; kind = happened }

-- an event after a history, and its line
abbrev pub event_turn : List Event → EventKind → Turn
event_turn H happened = record { words = event_turn_words (by_script happened); history = H ++ by_script happened ∷ [] }

-- a refusal leaves the history
abbrev pub refused_turn : List Event → Refusal → Turn
refused_turn H r = record { words = refused_words r; history = H }

-- a command that isn't refused has an event (`command_appends` of `serial_order`)
abbrev pub accepted_turn : List Event → Option EventKind → Turn
accepted_turn H (Some happened) = event_turn H happened
accepted_turn H None = record { words = []; history = H }

-- where memory isn't refused, a command is refused for the first reason that holds, or its event happens
abbrev pub answered_turn : List Event → Option Refusal → Option EventKind → Turn
answered_turn H (Some r) happened = refused_turn H r
answered_turn H None happened = accepted_turn H happened

-- the turn of a command, at which memory is refused or isn't
abbrev pub command_turn : List Object → Limits → Bool → List Event → Command → Turn
command_turn objects limits memory_refused H command =
    if memory_refused then refused_turn H NoMemory
    else answered_turn H (refusal objects limits H command) (event_of objects (summary H) command)

-- ---- all of them

-- the line of an object
abbrev pub object_turn : List Event → ObjectLine → Turn
object_turn H o = record { words = object_words o; history = H }

-- that of how many there may be
abbrev pub size_turn : List Event → Line EventLine → Turn
size_turn H line = record { words = words_of line; history = H }

-- all of them, where there have to be more than a text may have by itself after the line that says so
abbrev pub object_turns : List Event → List ObjectLine → List Turn
object_turns H objects = map (size_turn H) (size_lines (canonical_size objects)) ++ map (object_turn H) objects

-- the commands one after another, each from the history of the one before. `memory_refused` says the places, counted from these commands'
-- first, at which memory is refused
abbrev pub command_turns : List Object → Limits → (ℕ → Bool) → List Event → List Command → List Turn
command_turns objects limits memory_refused H [] = []
command_turns objects limits memory_refused H (command ∷ commands) =
    let turn = command_turn objects limits (memory_refused 0) H command in
    turn ∷ command_turns objects limits (λ place. memory_refused (suc place)) turn.history commands

-- the open transactions in ascending order
abbrev pub open_in : List Event → List ℕ
open_in H = filter (is_open (summary H)) (range_with_len 0 (summary H).begun)

-- an abort of each of these transactions, one after another
abbrev pub abort_turns : List Event → List ℕ → List Turn
abort_turns H [] = []
abort_turns H (t ∷ ts) = event_turn H (Abort t) ∷ abort_turns (H ++ by_script (Abort t) ∷ []) ts

-- an abort of each open transaction
abbrev pub closing_turns : List Event → List Turn
closing_turns H = abort_turns H (open_in H)

abbrev pub end_turn : List Event → Turn
end_turn H = record { words = end_words; history = H }

-- the kept state of the object at x
abbrev pub kept_turn : List Event → ℕ → ℕ → Turn
kept_turn H x state = record { words = kept_words x state; history = H }

-- those of the objects from x on
abbrev pub kept_turns : List Event → ℕ → List ℕ → List Turn
kept_turns H x [] = []
kept_turns H x (state ∷ states) = kept_turn H x state ∷ kept_turns H (suc x) states

-- what comes after the commands: the open transactions are aborted, `end`, and the kept states
abbrev pub last_turns : List Event → List ℕ → List Turn
last_turns H kept =
    let closed = history_after H (closing_turns H) in
    closing_turns H ++ end_turn closed ∷ kept_turns closed 0 kept

-- a script of these objects and commands, from the history H on
abbrev pub script_turns : List Object → Limits → (ℕ → Bool) → List ℕ → List Event → List ObjectLine → List Command → List Turn
script_turns objects limits memory_refused kept H lines commands =
    let asked = command_turns objects limits memory_refused H commands in
    object_turns H lines ++ (asked ++ last_turns (history_after H asked) kept)
