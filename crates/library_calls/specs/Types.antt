-- Types that are made of files and of texts.
use Rattle.std.specs.Prelude.{◌≡◌, ℕ, List, Ok, Err}
use Rattle.type_table.specs.declared.kind.Kind.{Kind}
use Rattle.line_text.specs.declared.fault.TextFault.{TextFault}
use Rattle.line_text.specs.declared.fault.FaultKind.TheVariants as fault
use Rattle.declared_types.specs.declared.type_file.TypeFile.{TypeFile}
use Rattle.type_text.specs.TypeFile as tables
use Rattle.declared_text.specs.Declared.{ReadsDeclaration}
use Rattle.table_checker.specs.Checked.{Checked, IsChecked}
use Rattle.table_checker.specs.Refusal.{IsFirstReason}
use Rattle.table_checker.specs.declared.refusal.CheckRefusal.{CheckRefusal}
use Rattle.table_maker.specs.Made.{IsMadeFile}
use Rattle.library_calls.specs.Codes.{number}
use Rattle.library_calls.specs.Words.{fault_words, refusal_words}
use Rattle.library_calls.specs.declared.code.Code.TheVariants.{BadText, Refused}
use Rattle.library_calls.specs.declared.words.ColockFault.{ColockFault}

-- ---- of a file

-- the file, accepted for the kind
pub record IsCheckedType (kind : Kind) (file : TypeFile) (c : Checked) : Type 0 where
  pub is : c ≡ record { kind = kind; file = file }
  pub checked : IsChecked (record { kind = kind; file = file })

-- the checker refuses the file for the kind: its first reason
pub record IsFileRefused (kind : Kind) (file : TypeFile) (n : ℕ) (words : ColockFault) : Type 0 where
  pub why : CheckRefusal
  pub first : IsFirstReason kind file why
  pub told : n ≡ number Refused
  pub words_are : words ≡ refusal_words why

-- ---- of a text

-- such a fault of a text is told, which isn't that memory was refused
pub record TellsFault (IsSuch : TextFault → Type 0) (n : ℕ) (words : ColockFault) : Type 0 where
  pub why : TextFault
  pub such : IsSuch why
  pub of_text : why.kind ≡ fault.NoMemory → ⊥
  pub told : n ≡ number BadText
  pub words_are : words ≡ fault_words why

-- the fault of a text that declares no type
abbrev pub TellsTextFault : List ℕ → ℕ → ColockFault → Type 0
TellsTextFault text n words = TellsFault (λ why. ReadsDeclaration (Err why) text) n words

-- ---- of a table whose relation and conflicts are made

-- the table and the set are those of the given file, and the relation and the conflict tables are made of these
pub record HasRemadeTables (given file : TypeFile) : Type 0 where
  pub table : file.table ≡ given.table
  pub reach : file.reach ≡ given.reach
  pub made : IsMadeFile file

-- the file has made tables in place of those of the type file that the text is
abbrev pub IsTabledOf : List ℕ → TypeFile → Type 0
IsTabledOf text file = (given : TypeFile) × tables.Reads (Ok given) text × HasRemadeTables given file

-- the fault of a text that is no type file
abbrev pub IsNoTypeFile : List ℕ → ℕ → ColockFault → Type 0
IsNoTypeFile text n words = TellsFault (λ why. tables.Reads (Err why) text) n words
