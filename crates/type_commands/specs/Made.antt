-- What `make FAMILY SIZE ITEM...` and `tables FILE` answer.
use Rattle.std.specs.Prelude.{◌≡◌, ℕ, List, Option, Some, None, Result, Ok, Err}
use Rattle.command_files.specs.Answers.{Answers}
use Rattle.command_files.specs.Files.{IsFileAt}
use Rattle.command_files.specs.declared.status.Verdict.TheVariants.{Yes, No}
use Rattle.table_maker.specs.Made.{IsFileOfFamily, IsMadeFile}
use Rattle.table_maker.specs.declared.make_error.MakeError.{MakeError}
use Rattle.table_maker.specs.declared.make_error.MakeError.TheVariants.{BadParameter, TooLarge, NoMemory}
use Rattle.declared_text.specs.Canonical.{canonical_text as declared_text}
use Rattle.declared_types.specs.declared.declared_type.Declaration.{Declaration}
use Rattle.declared_types.specs.declared.declared_type.Declaration.TheVariants.{Table, Number}
use Rattle.type_text.specs.Canonical.{canonical_text}
use Rattle.declared_types.specs.declared.type_file.TypeFile.{TypeFile}
use Rattle.type_commands.specs.Request.{Fits, Formula, IsGood, Wanted, formula_of, table, value}

-- ---- `make`

-- a file that is a family's, or this number
abbrev pub DeclaresFormula : Formula → Declaration → Type 0
DeclaresFormula (table f) (Table file) = IsFileOfFamily f file
DeclaresFormula (value v) (Number number) = number ≡ v
DeclaresFormula _ _ = ⊥

-- the parameters are good, the family isn't too large at them, and this is made by its formula
pub record IsMadeFor (wanted : Wanted) (made : Declaration) : Type 0 where
  pub good : IsGood wanted
  pub fits : Fits wanted
  pub follows : DeclaresFormula (formula_of wanted) made

-- what is made, or why there is nothing
abbrev pub MakesWanted : Wanted → Result Declaration MakeError → Type 0
MakesWanted wanted (Ok made) = IsMadeFor wanted made
MakesWanted wanted (Err BadParameter) = IsGood wanted → ⊥
MakesWanted wanted (Err TooLarge) = IsGood wanted × (Fits wanted → ⊥)
MakesWanted wanted (Err NoMemory) = IsGood wanted × Fits wanted

-- and so of words, where memory is refused only where something is asked for
abbrev pub MakesFor : Option Wanted → Result Declaration MakeError → Type 0
MakesFor None (Err BadParameter) = Unit {0}
MakesFor None _ = ⊥
MakesFor (Some wanted) (Err NoMemory) = Unit {0}
MakesFor (Some wanted) made = MakesWanted wanted made

-- what is asked for is made, and the text is its canonical one
abbrev pub MakesFamily : Option Wanted → Answers
MakesFamily (Some wanted) Yes text = (made : Declaration) × IsMadeFor wanted made × (text ≡ declared_text made)
MakesFamily wanted verdict text = ⊥

-- the words ask for nothing, or what can't be made
abbrev pub CannotBeMade : Option Wanted → Type 0
CannotBeMade None = Unit {0}
CannotBeMade (Some wanted) = IsGood wanted → Fits wanted → ⊥

-- ---- `tables`

-- the table and the set are those of the given file, and the relation and the conflict tables are made of these
pub record IsMadeOf (given file : TypeFile) : Type 0 where
  pub table : file.table ≡ given.table
  pub reach : file.reach ≡ given.reach
  pub made : IsMadeFile file

-- the text is that of a file with made tables in place of the given file's
abbrev pub MakesTables : TypeFile → Answers
MakesTables given Yes text = (file : TypeFile) × IsMadeOf given file × (text ≡ canonical_text file)
MakesTables given No text = ⊥

-- the same of the file of a path, by what is held there
abbrev pub MakesTablesOf : Option (List ℕ) → Answers
MakesTablesOf held verdict text = (given : TypeFile) × IsFileAt held given × MakesTables given verdict text
