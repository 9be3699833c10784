-- A store does again what another store of its types did, where operations may have been carried into the history: such an operation needn't be one that
-- its call would be answered with.
use Rattle.std.specs.Prelude.{◌≡◌, ℕ, List, [], ◌∷◌, ◌++◌, true, false, None, Result, Ok, Err}
use Rattle.type_table.specs.Table.{has_op}
use Rattle.object_trait.specs.Meaning.{Meaning}
use Rattle.object_trait.specs.Steps.{IsLegalFor, stopper}
use Rattle.object_trait.specs.declared.event.Event.{Event}
use Rattle.object_trait.specs.declared.event.EventKind.{EventKind}
use Rattle.object_trait.specs.declared.event.EventKind.TheVariants.{Op}
use Rattle.serial_order.specs.Machine.{IsRun, MayFollow}
use Rattle.serial_order.specs.Replay.{is_history_full}
use Rattle.serial_order.specs.declared.command.Command.{Command}
use Rattle.store_laws.specs.Stored.{Stored, objects, stored_after}
use Rattle.store.specs.Ends.{closing_but}
use Rattle.store.specs.Follows.{IsMade, with_event}
use Rattle.store.specs.OwnHistory.{at_beginning}
use Rattle.store.specs.declared.event_replay.Stray.{Stray}
use Rattle.store.specs.declared.event_replay.Stray.TheVariants.{NotMade, NoMemory}

-- an object has operation k, which is legal for t there, and nobody keeps t from it
pub record IsAdmitted (m : Meaning) (t k : ℕ) : Type 0 where
  pub operation : has_op m.checked.file.table k ≡ true
  pub legal : IsLegalFor m t k
  pub free : stopper m t k ≡ None

-- an operation that the locks admit, where there is room for it; any other event that some command makes
abbrev pub MayRetrace : Stored → Event → EventKind → Type 0
MayRetrace s e (Op k t x) = MayFollow (objects s) s.history e × (is_history_full s.limits s.history 1 ≡ false)
MayRetrace s e other = IsMade s e

abbrev pub IsRetraced : Stored → Event → Type 0
IsRetraced s e = MayRetrace s e e.kind

-- each is done after those before it
abbrev pub AreRetraced : Stored → List Event → Type 0
AreRetraced s [] = Unit {0}
AreRetraced s (e ∷ es) = IsRetraced s e × AreRetraced (with_event s e) es

-- a history that a store of its types and its limits does again, event by event
abbrev pub IsTracedHistory : Stored → Type 0
IsTracedHistory s = AreRetraced (at_beginning s) s.history

-- what becomes of an event that is to be done again
abbrev pub Retraces : Stored → Event → Result (Unit {0}) Stray → Stored → Type 0
Retraces old e (Ok x) new = IsRetraced old e × (new ≡ with_event old e)
Retraces old e (Err NotMade) new = (IsRetraced old e → ⊥) × (new ≡ old)
Retraces old e (Err NoMemory) new = new ≡ old

-- ---- laws

-- what a command makes may be done again so
abbrev pub MadeIsRetraced : Type 0
MadeIsRetraced = (s : Stored) (e : Event) → IsMade s e → IsRetraced s e

-- a history that may be done again is a run
abbrev pub TracedIsRun : Type 0
TracedIsRun = (s : Stored) → IsTracedHistory s → IsRun (objects s) s.history

-- it stays so by a command of a worker
abbrev pub StepsAreTraced : Type 0
StepsAreTraced = (s : Stored) (w : ℕ) (command : Command) → IsTracedHistory s → IsTracedHistory (stored_after s w command)

-- and by the aborts of what is open but of those
abbrev pub ClosingIsTraced : Type 0
ClosingIsTraced = (those : List ℕ) (s : Stored) → IsTracedHistory s → IsTracedHistory (record s { history = s.history ++ closing_but those s.history })
