-- Statements of laws: of committed states.
use Rattle.std.specs.Prelude.{◌≡◌, ◌↔◌, ℕ, List, [], ◌∷◌, ◌++◌, false, Some, slice_get}
use Rattle.type_table.specs.Run.{AreEqui}
use Rattle.table_checker.specs.Checked.{IsChecked}
use Rattle.object_trait.specs.Object.{Object}
use Rattle.object_trait.specs.Meaning.{Meaning, object, state_of}
use Rattle.object_trait.specs.Committed.{committed_of}
use Rattle.object_trait.specs.Sound.{IsSound}
use Rattle.object_trait.specs.declared.event.Event.{Event}
use Rattle.serial_order.specs.History.{summary, is_open}
use Rattle.serial_order.specs.Machine.{MayFollow, IsRun, AreCovered}
use Rattle.serial_order.specs.Represent.{Represents}
use Rattle.committed_states.specs.Committed.{IsCommitted, AgreesWithSerial, is_commit}

-- ---- of a run

-- what a sound object that represents the run has is a committed state after it
abbrev pub CommittedIsThere : Type 0
CommittedIsThere =
    (objects : List Object) (H : List Event) (x : ℕ) (m : Meaning) → AreCovered objects → IsRun objects H → slice_get objects x ≡ Some (object m)
    → Represents m x H → IsSound m → (s : ℕ) × (committed_of m ≡ Some s) × IsCommitted (object m) s x H

-- no operation tells two committed states apart
abbrev pub CommittedIsOne : Type 0
CommittedIsOne = (o : Object) (s t x : ℕ) (H : List Event) → IsCommitted o s x H → IsCommitted o t x H → AreEqui o.table (Some s) (Some t)

-- a committed state agrees with the serial one
abbrev pub CommittedAgrees : Type 0
CommittedAgrees =
    (objects : List Object) (H : List Event) (x : ℕ) (o : Object) (s : ℕ) → AreCovered objects → IsRun objects H → slice_get objects x ≡ Some o
    → IsCommitted o s x H → AgreesWithSerial o s x H

-- each event but a commit leaves committed states
abbrev pub CommittedStays : Type 0
CommittedStays =
    (objects : List Object) (H : List Event) (e : Event) (x : ℕ) (o : Object) (s : ℕ) → MayFollow objects H e → is_commit e.kind ≡ false
    → IsCommitted o s x H ↔ IsCommitted o s x (H ++ e ∷ [])

-- where nobody is open, the state of an object is a committed state
abbrev pub ClosedIsCommitted : Type 0
ClosedIsCommitted =
    (objects : List Object) (H : List Event) (x : ℕ) (m : Meaning) (s : ℕ) → IsChecked m.checked → IsRun objects H → ((t : ℕ) → is_open (summary H) t ≡ false)
    → Represents m x H → IsSound m → state_of m ≡ Some s → IsCommitted (object m) s x H
