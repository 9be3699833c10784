-- Epochs that end with open transactions are serial, one after another.
use Rattle.std.proofs.Common.{◌≡◌, ℕ, List, map, Some, slice_get}
use Rattle.type_table.specs.Laws.{RunsAlike, RunsAlong, LooksExtends, EquiExtends}
use Rattle.table_checker.specs.At.{AtIsChecked, AtIsStrong}
use Rattle.table_checker.specs.Checked.{Checked}
use Rattle.object_trait.specs.Object.{object_of}
use Rattle.object_trait.specs.Laws.{CheckedIsCovered}
use Rattle.serial_order.specs.Laws.{AreChecked, CheckedHeadline}
use Rattle.serial_order.specs.Epochs.{Epoch}
use Rattle.serial_order.proofs.Checked.{checked_covered}
use Rattle.serial_order.proofs.Epochs.{AgreeInTurn, behind-inside, serial-in-turn}
use Rattle.committed_states.specs.Committed.{AgreesWithSerial}
use Rattle.committed_states.specs.Laws.{CommittedAgrees}
use Rattle.carried_runs.proofs.Types.{type-there}
use Rattle.carried_runs.specs.OpenEpochs.{IsOpenEpoch, OpenEpochsAreSerial}

module _ (covered : CheckedIsCovered) (agrees : CommittedAgrees) where
  -- the committed state agrees with the serial one
  kept-agrees : (types : List Checked) (e : Epoch) (x : ℕ) (c : Checked) (s : ℕ) → AreChecked types → IsOpenEpoch types e → slice_get types x ≡ Some c → slice_get e.kept x ≡ Some s
      → AgreesWithSerial (object_of c) s x e.history
  kept-agrees types e x c s checked epoch there state =
      let here = type-there types x c there in
      agrees (map object_of types) e.history x (object_of c) s (checked_covered covered types checked) epoch.run here (epoch.kept x (object_of c) s here state)

  open-agree : AtIsChecked → AgreeInTurn IsOpenEpoch
  open-agree law = record {
    run = λ types e epoch. epoch.run;
    as_many = λ types e epoch. epoch.as_many;
    behind = λ types e checked epoch. behind-inside law types e checked epoch.added (λ x c s there state. (epoch.kept x (object_of c) s (type-there types x c there) state).inside);
    looks = λ types e x c s checked epoch there state. (kept-agrees types e x c s checked epoch there state).looks;
    equi = λ types e x c s checked epoch there state strong. (kept-agrees types e x c s checked epoch there state).equi ((covered c (checked x c there)).1 strong);
  }

pub open_epochs_are_serial : CommittedAgrees → RunsAlike → AtIsChecked → AtIsStrong → CheckedIsCovered → CheckedHeadline → LooksExtends → EquiExtends → RunsAlong → OpenEpochsAreSerial
open_epochs_are_serial agrees alike at_law strong_law covered headline looks equi along = serial-in-turn alike strong_law headline looks equi along IsOpenEpoch (open-agree covered agrees at_law)
