-- The types of a file's objects.
use Rattle.std.specs.Prelude.{◌≡◌, ℕ, List, length, slice_get, Some}
use Rattle.declared_types.specs.declared.declared_type.Declaration.{Declaration}
use Rattle.table_checker.specs.Checked.{Checked, IsChecked}
use Rattle.table_checker.specs.At.{checked_at, IsInside}
use Rattle.declared_types.specs.Declarations.{file_of, IsDeclaredFor}
use Rattle.declared_text.specs.Declared.{Declares}
use Rattle.store_text.specs.declared.line.ObjectLine.{ObjectLine}
use Rattle.journal.specs.declared.state_row.FirstState.{FirstState}
use Rattle.journal.specs.Contents.{Contents}

-- the type of an object of a file: what the text at its place declares, accepted for its kind, for which it may be declared, at the state where
-- the history begins
pub record IsTypeAt (texts : List (List ℕ)) (o : ObjectLine) (first : FirstState) (c : Checked) : Type 0 where
  pub text : List ℕ
  pub there : slice_get texts o.file ≡ Some text
  pub declaration : Declaration
  pub declares : Declares text declaration
  pub kinds : IsDeclaredFor o.kind declaration
  pub checked : IsChecked (record { kind = o.kind; file = file_of declaration })
  pub inside : IsInside (record { kind = o.kind; file = file_of declaration }) first.state
  pub is : c ≡ checked_at (record { kind = o.kind; file = file_of declaration }) first.state

-- one for each object
pub record AreTypes (texts : List (List ℕ)) (objects : List ObjectLine) (states : List FirstState) (types : List Checked) : Type 0 where
  pub as_many : length types ≡ length objects
  pub as_many_states : length states ≡ length objects
  pub each : (x : ℕ) (o : ObjectLine) (first : FirstState) (type : Checked) → slice_get objects x ≡ Some o → slice_get states x ≡ Some first → slice_get types x ≡ Some type
      → IsTypeAt texts o first type

-- the types of the objects of a file
abbrev pub HasTypes : Contents → List Checked → Type 0
HasTypes c types = AreTypes c.types c.objects c.states types
