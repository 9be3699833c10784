-- Histories that commands make, with the answers that a store gives.
use Rattle.std.specs.Prelude.{◌≡◌, ℕ, ◌+◌, ◌≤◌, List, [], length, true, false, Some, IsSome, slice_get}
use Rattle.store_limits.specs.declared.limits.Limits.{Limits}
use Rattle.type_table.specs.Table.{Table, next, is_same_call}
use Rattle.object_trait.specs.Object.{Object}
use Rattle.object_trait.specs.declared.event.Event.{Event}
use Rattle.object_trait.specs.declared.event.EventKind.{EventKind}
use Rattle.object_trait.specs.declared.event.EventKind.TheVariants as kind
use Rattle.object_trait.specs.declared.event.EventKind.TheVariants.{Op, Busy}
use Rattle.serial_order.specs.History.{begins}
use Rattle.serial_order.specs.Replay.{replay}
use Rattle.serial_order.specs.declared.command.Command.{Command}

-- commands make the history at these objects, where a store has these limits, and memory isn't refused
abbrev pub IsMadeByCommands : List Object → Limits → List Event → Type 0
IsMadeByCommands objects limits H = (commands : List (ℕ × Command)) × (replay objects limits (λ _. false) [] commands ≡ H)

-- of each call at most one operation is legal in a state: the state says the reply
abbrev pub HasOneReply : Table → Type 0
HasOneReply T = (s k j : ℕ) → IsSome (next T s k) → IsSome (next T s j) → is_same_call T k j ≡ true → k ≡ j

-- the event is no `Busy` and no `None`, and where it is an operation, it is of an object whose state says the reply
abbrev pub IsToldBy : List Object → EventKind → Type 0
IsToldBy objects (Op k t x) = (o : Object) → slice_get objects x ≡ Some o → HasOneReply o.table
IsToldBy objects (Busy c t x u) = ⊥
IsToldBy objects (kind.None t x c) = ⊥
IsToldBy objects _ = Unit {0}

-- no command for it is refused for want of room
pub record HasRoomForRun (limits : Limits) (H : List Event) : Type 0 where
  pub open_at_once : begins H ≤ limits.«open»
  pub events : length H + length H + 2 ≤ limits.events
