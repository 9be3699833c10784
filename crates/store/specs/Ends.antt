-- The end of a transaction, and the beginning and the end of a store.
use Rattle.std.specs.Prelude.{◌≡◌, ℕ, ◌<◌, List, [], length, map, filter, ◌≤◌, Bool, true, false, not, ◌&&◌, Some, slice_get, slice_index_or}
use Rattle.std.specs.List.{range_with_len}
use Rattle.store_limits.specs.declared.limits.Limits.{Limits}
use Rattle.store_limits.specs.Standard.{are_limits}
use Rattle.object_trait.specs.Meaning.{Meaning}
use Rattle.object_trait.specs.Steps.{IsFresh, open_transactions}
use Rattle.object_trait.specs.declared.event.Event.{Event}
use Rattle.object_trait.specs.declared.event.EventKind.TheVariants.{Abort}
use Rattle.serial_order.specs.History.{Summary, summary, is_open}
use Rattle.serial_order.specs.Operations.{is_among}
use Rattle.serial_order.specs.After.{beginners}
use Rattle.serial_order.specs.declared.command.Command.{Command}
use Rattle.serial_order.specs.declared.command.Command.TheVariants as command
use Rattle.object_calls.specs.declared.end.End.{End}
use Rattle.object_calls.specs.declared.end.End.TheVariants as end
use Rattle.store_laws.specs.Kept.{IsObject}
use Rattle.store_laws.specs.Stored.{Stored, types_of}
use Rattle.store.specs.declared.refusals.NewRefusal.{NewRefusal}
use Rattle.store.specs.declared.refusals.NewRefusal.TheVariants.{NoObjects, TooManyObjects, NotFresh, BadMax, NoMemory}

-- ---- the end of a transaction

-- the command that asks for it
abbrev pub end_command : End → ℕ → Command
end_command end.Commit t = command.Commit t
end_command end.Abort t = command.Abort t

-- ---- the beginning

-- each object is as it was made
abbrev pub AreFresh : List Meaning → Type 0
AreFresh ms = (x : ℕ) (m : Meaning) → slice_get ms x ≡ Some m → IsFresh m

-- why no store of such limits is made of these objects, memory aside: the first reason that holds. `greatest` is the greatest limit of events
abbrev pub RefusesNew : ℕ → List Meaning → Limits → NewRefusal → Type 0
RefusesNew greatest ms limits NoObjects = length ms ≡ 0
RefusesNew greatest ms limits TooManyObjects = limits.objects < length ms
RefusesNew greatest ms limits NotFresh = (0 < length ms) × (length ms ≤ limits.objects) × (AreFresh ms → ⊥)
RefusesNew greatest ms limits BadMax = (0 < length ms) × (length ms ≤ limits.objects) × AreFresh ms × (are_limits greatest limits ≡ false)
RefusesNew greatest ms limits NoMemory = (0 < length ms) × (length ms ≤ limits.objects) × AreFresh ms × (are_limits greatest limits ≡ true)

-- what a store may be made of
pub record MayBegin (greatest : ℕ) (ms : List Meaning) (limits : Limits) : Type 0 where
  pub some : 0 < length ms
  pub few : length ms ≤ limits.objects
  pub fresh : AreFresh ms
  pub limit : are_limits greatest limits ≡ true

-- a store of these objects, with the empty history
abbrev pub begun : List Meaning → Limits → Stored
begun ms limits = record { types = types_of ms; history = []; limits = limits; forgotten = 0 }

-- ---- the end

-- the abort of t, by the worker that began it
abbrev pub closing_abort : List Event → ℕ → Event
closing_abort H t = record { worker = slice_index_or (beginners H) t 0; kind = Abort t }

-- the abort of each open transaction, in ascending order of their numbers
abbrev pub closing : List Event → List Event
closing H = map (closing_abort H) (filter (is_open (summary H)) (range_with_len 0 (summary H).begun))

-- t is open, and none of those
abbrev pub is_other : List ℕ → Summary → ℕ → Bool
is_other those s t = not (is_among those t) && is_open s t

-- the abort of each open transaction but those, in the same order
abbrev pub closing_but : List ℕ → List Event → List Event
closing_but those H = map (closing_abort H) (filter (is_other those (summary H)) (range_with_len 0 (summary H).begun))

-- an object that a store hands out at its end: it represents the history, and no transaction is open there
pub record IsHandedOut (m : Meaning) (x : ℕ) (H : List Event) : Type 0 where
  pub object : IsObject m x H
  pub closed : open_transactions m.log ≡ []
