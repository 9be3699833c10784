-- A history that a store of its types and its limit makes: such a store follows it, event by event.
use Rattle.std.specs.Prelude.{ℕ, List, [], ◌++◌, Bool}
use Rattle.serial_order.specs.Machine.{IsRun}
use Rattle.serial_order.specs.Replay.{replay}
use Rattle.serial_order.specs.declared.command.Command.{Command}
use Rattle.store_laws.specs.Stored.{Stored, objects, stored_after}
use Rattle.store.specs.Ends.{closing_but}
use Rattle.store.specs.Replays.{AreMade}

-- the store with no event yet
abbrev pub at_beginning : Stored → Stored
at_beginning s = record s { history = []; forgotten = 0 }

-- each of its events is made by a command that isn't refused, after those before it
abbrev pub IsOwnHistory : Stored → Type 0
IsOwnHistory s = AreMade (at_beginning s) s.history

-- ---- laws

-- a store's own history stays so by a command of a worker
abbrev pub StepsAreOwn : Type 0
StepsAreOwn = (s : Stored) (w : ℕ) (command : Command) → IsOwnHistory s → IsOwnHistory (stored_after s w command)

-- and by the aborts of what is open but of those
abbrev pub ClosingIsOwn : Type 0
ClosingIsOwn = (those : List ℕ) (s : Stored) → IsRun (objects s) s.history → IsOwnHistory s → IsOwnHistory (record s { history = s.history ++ closing_but those s.history })

-- so whatever workers ask a new store, and whatever is refused, its history is one that such a store follows
abbrev pub AskedIsFollowed : Type 0
AskedIsFollowed = (s : Stored) (memory_refused : ℕ → Bool) (commands : List (ℕ × Command)) → AreMade (at_beginning s) (replay (objects s) s.limits memory_refused [] commands)
