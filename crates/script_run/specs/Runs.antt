-- What is written, and what is left of the store, by a run that an output may stop.
use Rattle.store_limits.specs.declared.limits.Limits.{Limits}
use Rattle.std.specs.Prelude.{◌≡◌, ℕ, suc, ◌<◌, List, [], ◌∷◌, ◌++◌, length, take, Bool, true, false, Option, Some, None, Result, Ok, Err, OnOk, slice_get, ◌⊎◌}
use Rattle.std.specs.Io.KnownBytes.{Appends}
use Rattle.std.specs.Result.{result_err}
use Rattle.object_trait.specs.Object.{Object}
use Rattle.object_trait.specs.declared.event.Event.{Event}
use Rattle.outputs.specs.Out.{Puts}
use Rattle.outputs.specs.declared.out.OutFault.{OutFault}
use Rattle.serial_order.specs.Replay.{refusal}
use Rattle.serial_order.specs.declared.command.Command.{Command}
use Rattle.serial_order.specs.declared.command.Command.TheVariants.{Begin, Call, Commit, Abort, Rollback}
use Rattle.serial_order.specs.declared.refusal.Refusal.{Refusal}
use Rattle.serial_order.specs.declared.refusal.Refusal.TheVariants.{NoMemory}
use Rattle.store_laws.specs.Stored.{Stored, objects, refusal_of, stored_after}
use Rattle.store.specs.KeptState.{IsKeptState}
use Rattle.script_text.specs.declared.script.Script.{Script}
use Rattle.script_run.specs.Turns.{Turn, line_of, text_of_turns, history_after, command_turn, command_turns, kept_turn, kept_turns, script_turns}

-- ---- turns that are written

-- the output stopped at one of the turns: it took the lines before it and a beginning of its line, which isn't the whole line, and
-- the store is as it is at that turn
pub record StopsAt (old : Stored) (turns : List Turn) (before after : Option (List ℕ)) (new : Stored) : Type 0 where
  pub place : ℕ
  pub turn : Turn
  pub there : slice_get turns place ≡ Some turn
  pub taken : ℕ
  pub short : taken < length (line_of turn)
  pub bytes : Appends before after (text_of_turns (take place turns) ++ take taken (line_of turn))
  pub store : new ≡ record old { history = turn.history }

-- the output took the lines of all turns, and the store is as it is after them
pub record WritesAll (old : Stored) (turns : List Turn) (before after : Option (List ℕ)) (new : Stored) : Type 0 where
  pub bytes : Appends before after (text_of_turns turns)
  pub store : new ≡ record old { history = history_after old.history turns }

abbrev pub WrittenOr : Stored → List Turn → Option (List ℕ) → Option (List ℕ) → Stored → Result (Unit {0}) OutFault → Type 0
WrittenOr old turns before after new (Ok done) = WritesAll old turns before after new
WrittenOr old turns before after new (Err e) = StopsAt old turns before after new

-- turns are written one after another: at `Ok` all of them, else those before the one at which the output stopped
pub record Writes (old : Stored) (turns : List Turn) (before after : Option (List ℕ)) (fault : Option OutFault) (new : Stored) (result : Result (Unit {0}) OutFault) : Type 0 where
  pub written : WrittenOr old turns before after new result
  pub fault_is : fault ≡ result_err result

-- ---- memory

-- whether a command may take memory: an end never does
abbrev pub takes_memory : Command → Bool
takes_memory Begin = true
takes_memory (Call t x name) = true
takes_memory (Rollback t n) = true
takes_memory (Commit t) = false
takes_memory (Abort t) = false

-- a command is asked as worker 0, and refused for this reason or not at all: it does what it is to do, or memory was refused and nothing
-- has changed
abbrev pub Asks : Stored → Command → Option Refusal → Stored → Type 0
Asks old command reason new =
    ((reason ≡ refusal_of old command) × (new ≡ stored_after old 0 command))
    ⊎ ((takes_memory command ≡ true) × (refusal_of old command ≡ None) × (reason ≡ Some NoMemory) × (new ≡ old))

-- memory is refused only to commands that may take it and aren't refused for another reason
abbrev pub MayRefuseMemory : List Object → Limits → (ℕ → Bool) → List Event → List Command → Type 0
MayRefuseMemory objects limits memory_refused H [] = Unit {0}
MayRefuseMemory objects limits memory_refused H (command ∷ commands) =
    (memory_refused 0 ≡ true → (takes_memory command ≡ true) × (refusal objects limits H command ≡ None))
    × MayRefuseMemory objects limits (λ place. memory_refused (suc place)) (command_turn objects limits (memory_refused 0) H command).history commands

-- commands are asked one after another, and their lines are written
pub record RunsCommands (old : Stored) (commands : List Command) (before after : Option (List ℕ)) (fault : Option OutFault) (new : Stored) (result : Result (Unit {0}) OutFault) : Type 0 where
  pub memory_refused : ℕ → Bool
  pub may_refuse_memory : MayRefuseMemory (objects old) old.limits memory_refused old.history commands
  pub writes : Writes old (command_turns (objects old) old.limits memory_refused old.history commands) before after fault new result

-- ---- kept states

-- each of these is the kept state of the object at its place
abbrev pub AreKept : Stored → List ℕ → Type 0
AreKept s kept = (x state : ℕ) → slice_get kept x ≡ Some state → IsKeptState s x state

-- the line of the kept state of the object at x is written
pub record WritesState (s : Stored) (x : ℕ) (before after : Option (List ℕ)) (fault : Option OutFault) (result : Result (Unit {0}) OutFault) : Type 0 where
  pub state : ℕ
  pub is_kept : IsKeptState s x state
  pub line : Puts before after fault (line_of (kept_turn s.history x state)) result

-- the lines of kept states are written: of all objects at `Ok`, else of those to which it came
pub record WritesKept (s : Stored) (before after : Option (List ℕ)) (fault : Option OutFault) (result : Result (Unit {0}) OutFault) : Type 0 where
  pub kept : List ℕ
  pub are_kept : AreKept s kept
  pub all : OnOk result (length kept ≡ length s.types)
  pub writes : Writes s (kept_turns s.history 0 kept) before after fault s result

-- ---- a script

-- the script's turns are written, where memory may have been refused at some places. The kept states are those of the store that comes
-- back: of all objects at `Ok`, else of those to which it came
pub record RunsScript (old : Stored) (script : Script) (before after : Option (List ℕ)) (fault : Option OutFault) (new : Stored) (result : Result (Unit {0}) OutFault) : Type 0 where
  pub memory_refused : ℕ → Bool
  pub may_refuse_memory : MayRefuseMemory (objects old) old.limits memory_refused old.history script.commands
  pub kept : List ℕ
  pub are_kept : AreKept new kept
  pub all_kept : OnOk result (length kept ≡ length new.types)
  pub writes : Writes old (script_turns (objects old) old.limits memory_refused kept old.history script.objects.items script.commands) before after fault new result
