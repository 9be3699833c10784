-- The commands of an attempt, and their replay.
use Rattle.std.specs.Prelude.{ℕ, suc, List, [], ◌∷◌, ◌++◌, map, take, Bool, true, false, ◌&&◌, ◌==◌}
use Rattle.object_trait.specs.declared.event.EventKind.{EventKind}
use Rattle.serial_order.specs.Replay.{replay}
use Rattle.serial_order.specs.declared.command.Command.{Command}
use Rattle.serial_order.specs.declared.command.Command.TheVariants.{Begin, Call, Commit, Abort}
use Rattle.serial_order.specs.declared.refusal.Refusal.TheVariants.{NoMemory}
use Rattle.store_laws.specs.Stored.{Stored, objects}
use Rattle.attempts.specs.declared.outcome.AttemptCall.{AttemptCall}
use Rattle.attempts.specs.declared.outcome.Attempt.{Attempt}
use Rattle.attempts.specs.declared.outcome.Attempt.TheVariants.{Done, Ended, NotBegun}
use Rattle.attempts.specs.declared.outcome.Ending.{Ending}
use Rattle.attempts.specs.declared.outcome.Ending.TheVariants.{Refused}

-- ---- calls

-- at which object, and the bytes of the call's name
abbrev pub CallAt : Type 0
CallAt = ℕ × List ℕ

abbrev pub asked_call : AttemptCall → CallAt
asked_call call = (call.at, call.name.now)

abbrev pub asked_calls : List AttemptCall → List CallAt
asked_calls calls = map asked_call calls

-- the command of a call of transaction t
abbrev pub call_command : ℕ → CallAt → Command
call_command t call = Call t (call.0) (call.1)

-- ---- commands

-- the begin of t and these calls
abbrev pub begin_and_calls : ℕ → List CallAt → List Command
begin_and_calls t calls = Begin ∷ map (call_command t) calls

-- those of an attempt with this answer: the begin, the calls up to the one that ended it, and the commit or the abort
abbrev pub attempt_commands : ℕ → List CallAt → Attempt → List Command
attempt_commands t calls (Done ks) = begin_and_calls t calls ++ Commit t ∷ []
attempt_commands t calls (Ended at how) = begin_and_calls t (take (suc at) calls) ++ Abort t ∷ []
attempt_commands t calls (NotBegun r) = []

-- a call ended it as memory was refused
abbrev pub is_for_memory : Ending → Bool
is_for_memory (Refused NoMemory) = true
is_for_memory other = false

-- the place of the command at which memory was refused: that of the call which ended it so
abbrev pub is_memory_refused_at : Attempt → ℕ → Bool
is_memory_refused_at (Ended at how) place = is_for_memory how && place == suc at
is_memory_refused_at other place = false

-- ---- histories

-- the store after these commands of worker w, where memory was refused at these places
abbrev pub commands_replayed : Stored → (ℕ → Bool) → ℕ → List Command → Stored
commands_replayed s memory_refused w commands =
    record s { history = replay (objects s) s.limits memory_refused s.history (map (λ command. (w, command)) commands) }

-- the store with these further events of worker w
abbrev pub with_kinds : Stored → ℕ → List EventKind → Stored
with_kinds s w kinds = record s { history = s.history ++ map (λ kind. record { worker = w; kind = kind }) kinds }
