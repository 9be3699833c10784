-- The types of objects that name them by places, and why an object has none.
use Rattle.std.specs.Prelude.{◌≡◌, ℕ, List, Some, None, length, take, slice_get}
use Rattle.type_table.specs.declared.kind.Kind.{Kind}
use Rattle.table_checker.specs.Checked.{Checked, IsChecked}
use Rattle.declared_types.specs.Declarations.{file_of, IsDeclaredFor}
use Rattle.table_checker.specs.Refusal.{IsFirstReason}
use Rattle.declared_types.specs.declared.declared_type.Declaration.{Declaration}
use Rattle.std.specs.Arc.{arc_value}
use Rattle.std.specs.declared.sync.Arc.{Arc}
use Rattle.store_text.specs.declared.line.ObjectLine.{ObjectLine}
use Rattle.object_types.specs.declared.object_fault.ObjectFault.{ObjectFault}
use Rattle.object_types.specs.declared.object_fault.ObjectFault.TheVariants.{NoType, NeedsEscrow, Refused, NoMemory}

-- ---- the types of objects

-- what was checked, behind the pointer that objects share
abbrev pub value_of : {A : Type 0} → Arc Checked A → Checked
value_of a = arc_value a

-- the declaration was accepted for the kind, for which it may be declared
abbrev pub IsCheckedFor : Kind → Declaration → Checked → Type 0
IsCheckedFor kind declaration c = (c ≡ record { kind = kind; file = file_of declaration }) × IsChecked c × IsDeclaredFor kind declaration

-- the type of an object: the one at the place that it names, accepted for its kind
pub record IsTypeOf (declared : List Declaration) (o : ObjectLine) (c : Checked) : Type 0 where
  pub declaration : Declaration
  pub there : slice_get declared o.file ≡ Some declaration
  pub checked : IsCheckedFor o.kind declaration c

-- one for each object
pub record AreTypesOf (declared : List Declaration) (objects : List ObjectLine) (types : List Checked) : Type 0 where
  pub as_many : length types ≡ length objects
  pub each : (x : ℕ) (o : ObjectLine) (c : Checked) → slice_get objects x ≡ Some o → slice_get types x ≡ Some c → IsTypeOf declared o c

-- a line at a place names the same type as this one, for the same kind; their names may differ
pub record IsSharedAt (lines : List ObjectLine) (place : ℕ) (line : ObjectLine) : Type 0 where
  pub other : ObjectLine
  pub there : slice_get lines place ≡ Some other
  pub kind : other.kind ≡ line.kind
  pub file : other.file ≡ line.file

-- ---- objects without types

-- the object's type is accepted
abbrev pub HasAcceptedType : List Declaration → ObjectLine → Type 0
HasAcceptedType declared o = (c : Checked) × IsTypeOf declared o c

-- the object's place is that of a type
abbrev pub HasDeclaration : List Declaration → ObjectLine → Type 0
HasDeclaration declared o = (declaration : Declaration) × (slice_get declared o.file ≡ Some declaration)

-- a number is named with another kind than escrow; or the declaration may be for the kind, and isn't accepted; or memory was refused
abbrev pub IsRefusedFor : Kind → Declaration → ℕ → ObjectFault → Type 0
IsRefusedFor kind declaration x (NoType y place) = ⊥
IsRefusedFor kind declaration x (NeedsEscrow y) = (y ≡ x) × ¬ (IsDeclaredFor kind declaration)
IsRefusedFor kind declaration x (Refused y refusal) = (y ≡ x) × IsDeclaredFor kind declaration × IsFirstReason kind (file_of declaration) refusal
IsRefusedFor kind declaration x NoMemory = Unit {0}

-- the type at the object's place is refused
abbrev pub IsRefusedAt : List Declaration → ℕ → ObjectLine → ObjectFault → Type 0
IsRefusedAt declared x o fault = (declaration : Declaration) × (slice_get declared o.file ≡ Some declaration) × IsRefusedFor o.kind declaration x fault

-- why object x has no type
abbrev pub IsFaultAt : List Declaration → ℕ → ObjectLine → ObjectFault → Type 0
IsFaultAt declared x o (NoType y place) = (y ≡ x) × (place ≡ o.file) × (slice_get declared o.file ≡ None)
IsFaultAt declared x o NoMemory = Unit {0}
IsFaultAt declared x o fault = IsRefusedAt declared x o fault

-- each object before this one is good, and this one has the fault
pub record IsFirstWith (IsGood : List Declaration → ObjectLine → Type 0) (declared : List Declaration) (objects : List ObjectLine) (fault : ObjectFault) : Type 0 where
  pub x : ℕ
  pub o : ObjectLine
  pub there : slice_get objects x ≡ Some o
  pub before : (y : ℕ) (p : ObjectLine) → slice_get (take x objects) y ≡ Some p → IsGood declared p
  pub at : IsFaultAt declared x o fault

-- the first object that has none, or memory was refused
abbrev pub IsFirstObjectFault : (List Declaration → ObjectLine → Type 0) → List Declaration → List ObjectLine → ObjectFault → Type 0
IsFirstObjectFault IsGood declared objects NoMemory = Unit {0}
IsFirstObjectFault IsGood declared objects fault = IsFirstWith IsGood declared objects fault

-- object x names this place, which isn't that of a type, and the places of the objects before it are
abbrev pub IsUnplacedAt : List Declaration → List ObjectLine → ℕ → ℕ → Type 0
IsUnplacedAt declared objects x place = IsFirstWith HasDeclaration declared objects (NoType x place)

-- an object names no type
abbrev pub IsUnplaced : List Declaration → List ObjectLine → Type 0
IsUnplaced declared objects = (x : ℕ) × (place : ℕ) × IsUnplacedAt declared objects x place
