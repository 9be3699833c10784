-- The names of objects that are added to those of a file.
use Rattle.std.specs.Prelude.{◌≡◌, ⊤, ℕ, Bool, true, false, List, ◌++◌, take, position, slice_get, Option, Some, None}
use Rattle.std.specs.List.{list_any}
use Rattle.std.specs.Str.{bytes_eq}
use Rattle.object_name.specs.ObjectName.{is_same_name}
use Rattle.store_text.specs.declared.line.ObjectLine.{ObjectLine}
use Rattle.durable_store.specs.declared.open_error.OpenError.{OpenError}
use Rattle.durable_store.specs.declared.open_error.OpenError.TheVariants.{NameTaken}
use Rattle.durable_store.specs.declared.object_names.ObjectNames.{ObjectNames}
use Rattle.std.specs.HashMap.{get}

-- whether one of these objects has the name
abbrev pub have_name : Option (List ℕ) → List ObjectLine → Bool
have_name name objects = list_any (λ (o : ObjectLine). is_same_name name o.name) objects

-- the number of the object that has the name, the first one where several have it
abbrev pub find_named : List ObjectLine → List ℕ → Option ℕ
find_named objects name = position (λ (o : ObjectLine). is_same_name (Some name) o.name) objects

-- none of these lines has the name of a known object, or of a line before it
abbrev pub HaveNewNames : List ObjectLine → List ObjectLine → Type 0
HaveNewNames known lines = (x : ℕ) (line : ObjectLine) → slice_get lines x ≡ Some line → have_name line.name (known ++ take x lines) ≡ false

-- the first line that has
pub record IsFirstTaken (known lines : List ObjectLine) (x : ℕ) : Type 0 where
  pub line : ObjectLine
  pub there : slice_get lines x ≡ Some line
  pub taken : have_name line.name (known ++ take x lines) ≡ true
  pub before : HaveNewNames known (take x lines)

-- which the error names, where it speaks of one
abbrev pub SaysTaken : List ObjectLine → List ObjectLine → OpenError → Type 0
SaysTaken known lines (NameTaken x) = IsFirstTaken known lines x
SaysTaken known lines error = ⊤

-- ---- inside

-- the number that an index has for a name
abbrev pub indexed : ObjectNames → List ℕ → Option ℕ
indexed names name = get bytes_eq names.numbers name

-- it has that of the object with this name, whatever the name
abbrev pub IndexesNames : List ObjectLine → ObjectNames → Type 0
IndexesNames objects names = (name : List ℕ) → indexed names name ≡ find_named objects name

-- these are the names of the objects
abbrev pub SayNames : List ObjectLine → List (List ℕ) → Type 0
SayNames objects names = (w : List ℕ) → list_any (bytes_eq w) names ≡ have_name (Some w) objects

-- whether a name is among these
abbrev pub knows_name : List (List ℕ) → Option (List ℕ) → Bool
knows_name names None = false
knows_name names (Some w) = list_any (bytes_eq w) names
