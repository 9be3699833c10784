-- The types of a file's objects, at the states where its history begins.
use Rattle.std.specs.Prelude.{◌≡◌, ℕ, List, length, slice_get, Some}
use Rattle.declared_types.specs.declared.declared_type.Declaration.{Declaration}
use Rattle.table_checker.specs.Checked.{Checked}
use Rattle.table_checker.specs.At.{checked_at, IsInside}
use Rattle.declared_text.specs.Declared.{Declares}
use Rattle.store_text.specs.declared.line.ObjectLine.{ObjectLine}
use Rattle.object_types.specs.Types.{IsSharedAt}
use Rattle.journal.specs.declared.state_row.FirstState.{FirstState}

-- what texts declare, in their order
pub record AreRead (texts : List (List ℕ)) (declared : List Declaration) : Type 0 where
  pub as_many : length declared ≡ length texts
  pub each : (k : ℕ) (text : List ℕ) (declaration : Declaration) → slice_get texts k ≡ Some text → slice_get declared k ≡ Some declaration → Declares text declaration

-- objects of one kind at one place have one type, whatever their names
abbrev pub HaveOneType : List ObjectLine → List Checked → Type 0
HaveOneType lines types =
    (x y : ℕ) (o : ObjectLine) (c d : Checked) → slice_get lines x ≡ Some o → IsSharedAt lines y o → slice_get types x ≡ Some c → slice_get types y ≡ Some d → c ≡ d

-- a type at a state at which it may begin
abbrev pub BeginsAt : Checked → FirstState → Checked → Type 0
BeginsAt c first at = IsInside c first.state × (at ≡ checked_at c first.state)

-- the type at this place, at its state
abbrev pub IsAtPlace : List Checked → List FirstState → ℕ → Checked → Type 0
IsAtPlace types states x at = (c : Checked) (first : FirstState) → slice_get types x ≡ Some c → slice_get states x ≡ Some first → BeginsAt c first at

-- each of the first ones at its state
abbrev pub BeginAt : List Checked → List FirstState → List Checked → Type 0
BeginAt types states begun = (x : ℕ) (at : Checked) → slice_get begun x ≡ Some at → IsAtPlace types states x at
