-- Objects by what they mean.
use Rattle.std.specs.Prelude.{◌≡◌, ℕ, ◌<◌, ◌^◌, List, length, map, Some, slice_get}
use Rattle.object_trait.specs.Object.{Object, object_of}
use Rattle.object_trait.specs.Meaning.{Meaning}
use Rattle.object_trait.specs.declared.event.Event.{Event}
use Rattle.serial_order.specs.Represent.{Represents}

abbrev pub objects_meant : List Meaning → List Object
objects_meant ms = map object_of (map (λ (m : Meaning). m.checked) ms)

-- each represents the history
abbrev pub AreRepresenting : List Meaning → List Event → Type 0
AreRepresenting ms H = (x : ℕ) (m : Meaning) → slice_get ms x ≡ Some m → Represents m x H

-- the entries of their logs can be counted
abbrev pub HaveShortLogs : List Meaning → Type 0
HaveShortLogs ms = (x : ℕ) (m : Meaning) → slice_get ms x ≡ Some m → length m.log < 2 ^ 32
