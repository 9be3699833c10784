-- How types are made for handles.
use Rattle.std.specs.Prelude.{◌≡◌, ℕ, List, Option, Some, None}
use Rattle.type_table.specs.declared.kind.Kind.{Kind}
use Rattle.declared_types.specs.declared.type_file.TypeFile.{TypeFile}
use Rattle.declared_text.specs.Declared.{Declares}
use Rattle.table_checker.specs.Checked.{Checked}
use Rattle.declared_types.specs.Declarations.{file_of, IsDeclaredFor}
use Rattle.declared_types.specs.declared.declared_type.Declaration.{Declaration}
use Rattle.library_calls.specs.Codes.{number}
use Rattle.library_calls.specs.Holding.{type_at}
use Rattle.library_calls.specs.Types.{IsCheckedType, IsFileRefused, TellsTextFault}
use Rattle.library_calls.specs.declared.code.Code.TheVariants.{Done, NoMemory, NeedsEscrow}
use Rattle.library_calls.specs.declared.held.Held.{Held}
use Rattle.library_calls.specs.declared.words.ColockFault.{ColockFault}

-- a type is made of such a file for a handle that holds nothing, which holds it then; or the checker refuses it, or there is no such file, or
-- memory was refused, and the handle goes on holding nothing. What was in the place of the fault's words stays, but for what is refused
pub data MakesType (IsSuch : TypeFile → Type 0) (IsAmiss : ℕ → ColockFault → Type 0) (kind : Kind) (was : ColockFault) (n : ℕ) (words : ColockFault) (new : Option Held) : Type 0 where
  accepted : (file : TypeFile) (c : Checked) → IsSuch file → IsCheckedType kind file c → n ≡ number Done → words ≡ was → type_at new ≡ Some c
      → MakesType IsSuch IsAmiss kind was n words new
  not_accepted : (file : TypeFile) → IsSuch file → IsFileRefused kind file n words → new ≡ None → MakesType IsSuch IsAmiss kind was n words new
  no_file : IsAmiss n words → new ≡ None → MakesType IsSuch IsAmiss kind was n words new
  memory_refused : n ≡ number NoMemory → words ≡ was → new ≡ None → MakesType IsSuch IsAmiss kind was n words new

-- ---- of what is declared

-- the file of what is declared, which is declared for the kind too
pub record IsFileFor (kind : Kind) (declaration : Declaration) (file : TypeFile) : Type 0 where
  pub for_kind : IsDeclaredFor kind declaration
  pub is : file ≡ file_of declaration

-- what is declared isn't declared for the kind: it is a number, and needs escrow
pub record IsNotFor (kind : Kind) (declaration : Declaration) (was : ColockFault) (n : ℕ) (words : ColockFault) : Type 0 where
  pub needs : IsDeclaredFor kind declaration → ⊥
  pub told : n ≡ number NeedsEscrow
  pub stay : words ≡ was

-- the file of what the text declares, for the kind
abbrev pub IsDeclaredFile : List ℕ → Kind → TypeFile → Type 0
IsDeclaredFile text kind file = (declaration : Declaration) × Declares text declaration × IsFileFor kind declaration file

-- why there is none: the text has a fault, or what it declares isn't for the kind
pub data HasNoFile (text : List ℕ) (kind : Kind) (was : ColockFault) (n : ℕ) (words : ColockFault) : Type 0 where
  faulty : TellsTextFault text n words → HasNoFile text kind was n words
  not_for : (declaration : Declaration) → Declares text declaration → IsNotFor kind declaration was n words → HasNoFile text kind was n words
