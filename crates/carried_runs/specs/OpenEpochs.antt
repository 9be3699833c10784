-- Epochs that end while transactions are open: each begins at the committed states of the one before it.
use Rattle.std.specs.Prelude.{◌≡◌, ℕ, List, ◌++◌, length, map, Some, slice_get}
use Rattle.type_table.specs.Run.{IsLegal}
use Rattle.table_checker.specs.Checked.{Checked}
use Rattle.object_trait.specs.Object.{object_of}
use Rattle.object_trait.specs.declared.event.Event.{Event}
use Rattle.serial_order.specs.Operations.{ops}
use Rattle.serial_order.specs.Machine.{IsRun}
use Rattle.serial_order.specs.Serial.{serial_at}
use Rattle.serial_order.specs.Laws.{AreChecked}
use Rattle.serial_order.specs.Epochs.{Epoch, AreInTurn, types_after, serial_over, IsSerialOver}
use Rattle.committed_states.specs.Committed.{AreCommittedStates}

-- an epoch of objects of these types, at whose end committed states are kept
pub record IsOpenEpoch (types : List Checked) (e : Epoch) : Type 0 where
  pub run : IsRun (map object_of types) e.history
  pub as_many : length e.kept ≡ length types
  pub added : AreChecked e.added
  pub kept : AreCommittedStates (map object_of types) e.kept e.history

abbrev pub AreOpenEpochs : List Checked → List Epoch → Type 0
AreOpenEpochs types es = AreInTurn IsOpenEpoch types es

-- they are serial, as closed ones are
abbrev pub OpenEpochsAreSerial : Type 0
OpenEpochsAreSerial =
    (types : List Checked) (es : List Epoch) → AreChecked types → AreOpenEpochs types es
    → (x : ℕ) (c last : Checked) → slice_get types x ≡ Some c → slice_get (types_after types es) x ≡ Some last
    → IsSerialOver c last x es
    × ((H : List Event) → IsRun (map object_of (types_after types es)) H
    → IsLegal c.file.table (Some c.file.table.initial) (serial_over x es ++ ops (serial_at x H)))
