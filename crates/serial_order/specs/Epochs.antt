-- Epochs: histories one after another, each from the states that were kept at the end of the one before it.
use Rattle.std.specs.Prelude.{◌≡◌, ℕ, List, [], ◌∷◌, ◌++◌, length, map, false, Some, slice_get}
use Rattle.type_table.specs.Run.{run, IsLegal, Looks, AreEqui}
use Rattle.table_checker.specs.At.{checked_at, IsInside}
use Rattle.table_checker.specs.Checked.{Checked, IsChecked, IsStrong}
use Rattle.object_trait.specs.Object.{object_of}
use Rattle.object_trait.specs.Meaning.{Meaning, state_of}
use Rattle.object_trait.specs.Sound.{IsSound}
use Rattle.object_trait.specs.declared.event.Event.{Event}
use Rattle.serial_order.specs.Operations.{ops}
use Rattle.serial_order.specs.History.{summary, is_open}
use Rattle.serial_order.specs.Machine.{IsRun}
use Rattle.serial_order.specs.Serial.{serial_at}
use Rattle.serial_order.specs.Represent.{Represents, IsIdle, KeptAgreesBy}
use Rattle.serial_order.specs.Laws.{AreChecked}

-- a history, at its end the state that was kept of each object, and the types of the objects that are added then
pub record Epoch : Type 0 where
  pub history : List Event
  pub kept : List ℕ
  pub added : List Checked

-- each type at the state that was kept of its object
abbrev pub types_at : List Checked → List ℕ → List Checked
types_at [] kept = []
types_at (c ∷ types) [] = []
types_at (c ∷ types) (s ∷ kept) = checked_at c s ∷ types_at types kept

-- the types with which the epoch after this one begins: those that were at the states that were kept, and then what is added
abbrev pub types_behind : List Checked → Epoch → List Checked
types_behind types e = types_at types e.kept ++ e.added

-- s may be the state that is kept of the object at x: one at which its type may begin, at a time when no open transaction has an operation there
pub record IsKeptAt (c : Checked) (s x : ℕ) (H : List Event) : Type 0 where
  pub inside : IsInside c s
  pub idle : IsIdle x H
  pub agrees : KeptAgreesBy c.kind (object_of c) (Some s) x H

-- an epoch of objects of these types
pub record IsEpoch (types : List Checked) (e : Epoch) : Type 0 where
  pub run : IsRun (map object_of types) e.history
  pub as_many : length e.kept ≡ length types
  pub added : AreChecked e.added
  pub kept : (x : ℕ) (c : Checked) (s : ℕ) → slice_get types x ≡ Some c → slice_get e.kept x ≡ Some s → IsKeptAt c s x e.history

-- each of these is such an epoch, and begins at the states that were kept at the end of the one before it, with the objects that were added
abbrev pub AreInTurn : (List Checked → Epoch → Type 0) → List Checked → List Epoch → Type 0
AreInTurn E types [] = Unit {0}
AreInTurn E types (e ∷ es) = E types e × AreInTurn E (types_behind types e) es

abbrev pub AreEpochs : List Checked → List Epoch → Type 0
AreEpochs types es = AreInTurn IsEpoch types es

-- the types with which the epoch after the last one begins
abbrev pub types_after : List Checked → List Epoch → List Checked
types_after types [] = types
types_after types (e ∷ es) = types_after (types_behind types e) es

-- the operations of the committed transactions at x, from where it is there on, epoch after epoch, and in each in commit order
abbrev pub serial_over : ℕ → List Epoch → List ℕ
serial_over x [] = []
serial_over x (e ∷ es) = ops (serial_at x e.history) ++ serial_over x es

-- the serial order over all epochs is legal at x from the first initial state, and so is that of the history that goes on from the last
-- kept state. This state agrees with the serial one
pub record IsSerialOver (c last : Checked) (x : ℕ) (es : List Epoch) : Type 0 where
  pub legal : IsLegal c.file.table (Some c.file.table.initial) (serial_over x es)
  pub looks : Looks c.file.table (Some last.file.table.initial) (run c.file.table (Some c.file.table.initial) (serial_over x es))
  pub equi : IsStrong c → AreEqui c.file.table (Some last.file.table.initial) (run c.file.table (Some c.file.table.initial) (serial_over x es))

-- where the epochs are some of a list, from one that isn't the first on, this is said of objects that were added before it
abbrev pub EpochsAreSerial : Type 0
EpochsAreSerial =
    (types : List Checked) (es : List Epoch) → AreChecked types → AreEpochs types es
    → (x : ℕ) (c last : Checked) → slice_get types x ≡ Some c → slice_get (types_after types es) x ≡ Some last
    → IsSerialOver c last x es
    × ((H : List Event) → IsRun (map object_of (types_after types es)) H
    → IsLegal c.file.table (Some c.file.table.initial) (serial_over x es ++ ops (serial_at x H)))

-- one epoch more, at the types of the last kept states
abbrev pub EpochsGoOn : Type 0
EpochsGoOn =
    (types : List Checked) (es : List Epoch) (e : Epoch) → AreEpochs types es → IsEpoch (types_after types es) e
    → AreEpochs types (es ++ e ∷ []) × (types_after types (es ++ e ∷ []) ≡ types_behind (types_after types es) e)

-- at the state of a sound object its type may begin
abbrev pub StatesAreInside : Type 0
StatesAreInside = (m : Meaning) (s : ℕ) → IsChecked m.checked → IsSound m → state_of m ≡ Some s → IsInside m.checked s

-- where no transaction is open, a history and the states of objects that represent it are an epoch
abbrev pub ClosedIsEpoch : Type 0
ClosedIsEpoch =
    (ms : List Meaning) (e : Epoch) → AreChecked (map (λ (m : Meaning). m.checked) ms) → IsRun (map object_of (map (λ (m : Meaning). m.checked) ms)) e.history
    → ((t : ℕ) → is_open (summary e.history) t ≡ false) → length e.kept ≡ length ms → AreChecked e.added
    → ((x : ℕ) (m : Meaning) → slice_get ms x ≡ Some m → IsSound m × Represents m x e.history)
    → ((x : ℕ) (m : Meaning) (s : ℕ) → slice_get ms x ≡ Some m → slice_get e.kept x ≡ Some s → state_of m ≡ Some s)
    → IsEpoch (map (λ (m : Meaning). m.checked) ms) e
