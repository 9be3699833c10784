-- What a store means to its callers, and what its calls do.
use Rattle.std.specs.Prelude.{◌≡◌, ℕ, List, map, ◌⊎◌, Option, Some, None, Result, Ok, Err}
use Rattle.store_limits.specs.declared.limits.Limits.{Limits}
use Rattle.table_checker.specs.Checked.{Checked}
use Rattle.object_trait.specs.Object.{Object, object_of}
use Rattle.object_trait.specs.Meaning.{Meaning}
use Rattle.object_trait.specs.declared.event.Event.{Event}
use Rattle.serial_order.specs.Replay.{refusal, after_command}
use Rattle.serial_order.specs.declared.command.Command.{Command}
use Rattle.serial_order.specs.declared.refusal.Refusal.{Refusal}
use Rattle.serial_order.specs.declared.refusal.Refusal.TheVariants.{NoMemory}

-- the objects' types, the whole history, its limits, and how many of its first events were forgotten: the others
-- are in memory
pub record Stored : Type 0 where
  pub types : List Checked
  pub history : List Event
  pub limits : Limits
  pub forgotten : ℕ

-- the types of objects of these meanings
abbrev pub types_of : List Meaning → List Checked
types_of ms = map (λ (m : Meaning). m.checked) ms

abbrev pub objects : Stored → List Object
objects s = map object_of s.types

abbrev pub refusal_of : Stored → Command → Option Refusal
refusal_of s command = refusal (objects s) s.limits s.history command

-- after a worker's command: a refusal changes nothing, and nothing but the history changes
abbrev pub stored_after : Stored → ℕ → Command → Stored
stored_after s w command = record s { history = after_command (objects s) s.limits s.history w command }

-- why a call was refused
abbrev pub refusal_in : {T : Type 0} → Result T Refusal → Option Refusal
refusal_in (Ok x) = None
refusal_in (Err r) = Some r

-- a call that takes no memory
abbrev pub Steps : {T : Type 0} → Stored → ℕ → Command → Result T Refusal → Stored → Type 0
Steps old w command result new = (refusal_in result ≡ refusal_of old command) × (new ≡ stored_after old w command)

-- one that may take it, where it isn't refused for another reason
abbrev pub MayStep : {T : Type 0} → Stored → ℕ → Command → Result T Refusal → Stored → Type 0
MayStep old w command result new =
    Steps old w command result new ⊎ ((refusal_of old command ≡ None) × (result ≡ Err NoMemory) × (new ≡ old))
