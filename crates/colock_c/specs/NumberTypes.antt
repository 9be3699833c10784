-- Types of numbers behind a handle.
use Rattle.std.specs.Prelude.{◌≡◌, ℕ, List}
use Rattle.type_table.specs.declared.kind.Kind.{Kind}
use Rattle.declared_types.specs.declared.type_file.TypeFile.{TypeFile}
use Rattle.declared_types.specs.declared.declared_type.Declaration.{Declaration}
use Rattle.table_families.specs.Number.{AreNumberAmounts, NumberFits}
use Rattle.library_calls.specs.Families.{HasNone, IsOfAmounts}
use Rattle.library_calls.specs.declared.words.ColockFault.{ColockFault}
use Rattle.colock_c.specs.Types.{IsFileFor, IsNotFor}

-- the file of this number, for the kind
abbrev pub IsOfNumber : ℕ → List ℕ → Kind → TypeFile → Type 0
IsOfNumber max amounts kind file = (declaration : Declaration) × IsOfAmounts max amounts declaration × IsFileFor kind declaration file

-- why there is none: the parameters have no number, or it isn't for the kind. Nothing is written
pub data HasNoNumber (max : ℕ) (amounts : List ℕ) (kind : Kind) (was : ColockFault) (n : ℕ) (words : ColockFault) : Type 0 where
  none : HasNone (AreNumberAmounts max amounts) (NumberFits amounts) n → words ≡ was → HasNoNumber max amounts kind was n words
  not_for : (declaration : Declaration) → IsOfAmounts max amounts declaration → IsNotFor kind declaration was n words → HasNoNumber max amounts kind was n words
