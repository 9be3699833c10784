-- What is declared at TYPE words, and the tables of the objects that name their places.
use Rattle.std.specs.Prelude.{◌≡◌, ℕ, List, Option, Some, IfSome, length, take, slice_get}
use Rattle.type_table.specs.Table.{Table}
use Rattle.store_text.specs.declared.line.ObjectLine.{ObjectLine}
use Rattle.declared_types.specs.Declarations.{table_of}
use Rattle.declared_types.specs.declared.declared_type.Declaration.{Declaration}
use Rattle.declared_text.specs.Declared.{Declares}
use Rattle.command_files.specs.Files.{IsFaultyDeclaration}

-- ---- files

-- what is held at each path, where the source says it
abbrev pub Held : Type 0
Held = List ℕ → Option (List ℕ)

-- each path has its value, which its text describes where the source says it
pub record AreReadAt {T : Type 0} (describes : List ℕ → T → Type 0) (holds : Held) (paths : List (List ℕ)) (values : List T) : Type 0 where
  pub as_many : length values ≡ length paths
  pub each : (k : ℕ) (path : List ℕ) (value : T) → slice_get paths k ≡ Some path → slice_get values k ≡ Some value
      → IfSome (holds path) (λ text. describes text value)

-- the text at this path is the first that has a fault
pub record IsFirstFaultyOf {T : Type 0} (describes : List ℕ → T → Type 0) (is_faulty : List ℕ → Type 0) (holds : Held) (paths : List (List ℕ)) : Type 0 where
  pub k : ℕ
  pub path : List ℕ
  pub there : slice_get paths k ≡ Some path
  pub values : List T
  pub before : AreReadAt describes holds (take k paths) values
  pub faulty : IfSome (holds path) is_faulty

-- each path has what its text declares
abbrev pub AreDeclaredAt : Held → List (List ℕ) → List Declaration → Type 0
AreDeclaredAt = AreReadAt Declares

-- the text of a type at this path is the first that has a fault
abbrev pub IsFirstFaultyDeclaration : Held → List (List ℕ) → Type 0
IsFirstFaultyDeclaration = IsFirstFaultyOf Declares IsFaultyDeclaration

-- ---- the tables of objects

-- the table of an object: that of the type at the place that it names
pub record IsTableOfObject (declared : List Declaration) (o : ObjectLine) (table : Table) : Type 0 where
  pub declaration : Declaration
  pub there : slice_get declared o.file ≡ Some declaration
  pub is : table ≡ table_of declaration

-- one for each object
pub record AreTablesOf (declared : List Declaration) (objects : List ObjectLine) (tables : List Table) : Type 0 where
  pub as_many : length tables ≡ length objects
  pub each : (x : ℕ) (o : ObjectLine) (table : Table) → slice_get objects x ≡ Some o → slice_get tables x ≡ Some table → IsTableOfObject declared o table
