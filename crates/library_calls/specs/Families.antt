-- Types of families, at parameters as they cross.
use Rattle.std.specs.Prelude.{◌≡◌, ℕ, true, List, Option, Some, None, if◌then◌else◌}
use Rattle.std.specs.List.{list_all}
use Rattle.type_table.specs.Name.{is_name}
use Rattle.line_text.specs.Text.{words_of}
use Rattle.declared_types.specs.declared.type_file.TypeFile.{TypeFile}
use Rattle.declared_types.specs.declared.declared_type.Declaration.{Declaration}
use Rattle.declared_types.specs.declared.declared_type.Declaration.TheVariants.{Number as Numbers}
use Rattle.table_families.specs.Number.{amounts_number, AreNumberAmounts, NumberFits}
use Rattle.table_families.specs.Elements.{AreElements}
use Rattle.table_maker.specs.Made.{Family, IsFileOfFamily}
use Rattle.table_families.specs.Semiqueue.{AreSemiqueueParameters}
use Rattle.library_calls.specs.Codes.{number}
use Rattle.library_calls.specs.declared.code.Code.TheVariants.{BadParameter, TooLarge}

-- the parameters are good, the family isn't too large at them, and the file is the family's
pub record IsOfFamily (IsGood Fits : Type 0) (f : Family) (file : TypeFile) : Type 0 where
  pub good : IsGood
  pub fits : Fits
  pub is_family : IsFileOfFamily f file

-- why a family has no file: its parameters aren't good, or they are and it is too large at them
pub data HasNone (IsGood Fits : Type 0) (n : ℕ) : Type 0 where
  bad : (IsGood → ⊥) → n ≡ number BadParameter → HasNone IsGood Fits n
  large : IsGood → (Fits → ⊥) → n ≡ number TooLarge → HasNone IsGood Fits n

-- ---- numbers

-- the parameters are good, there aren't too many amounts, and this is the number of them
pub record IsOfAmounts (max : ℕ) (amounts : List ℕ) (declaration : Declaration) : Type 0 where
  pub good : AreNumberAmounts max amounts
  pub fits : NumberFits amounts
  pub is_number : declaration ≡ Numbers (amounts_number max amounts)

-- ---- elements

-- the name that a word is
abbrev pub name_of : List ℕ → Option (List ℕ)
name_of word = if is_name word then Some word else None

-- each word is a name
abbrev pub AreNames : List (List ℕ) → Type 0
AreNames words = list_all is_name words ≡ true

-- the words of a text are the elements of a set
pub record AreSetWords (text : List ℕ) : Type 0 where
  pub names : AreNames (words_of text)
  pub elements : AreElements 25 (words_of text)

-- or those of a semiqueue of this capacity
pub record AreSemiqueueWords (text : List ℕ) (capacity : ℕ) : Type 0 where
  pub names : AreNames (words_of text)
  pub elements : AreSemiqueueParameters (words_of text) capacity
