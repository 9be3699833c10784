-- Type files, what declares a type, and their texts.
use Rattle.std.specs.Prelude.{◌≡◌, ℕ, List, Option, IfSome, Ok, Err}
use Rattle.line_text.specs.Outcome.{outcome_of}
use Rattle.line_text.specs.declared.fault.TextFault.{TextFault}
use Rattle.type_text.specs.TypeLines.{type_rules}
use Rattle.type_text.specs.TypeFile.{IsFileOf}
use Rattle.type_text.specs.declared.type_line.TypeLine.{TypeLine}
use Rattle.declared_types.specs.declared.type_file.TypeFile.{TypeFile}
use Rattle.declared_types.specs.declared.declared_type.Declaration.{Declaration}
use Rattle.declared_text.specs.Declared.{Declares, HasDeclaredFault}

-- the file that a text describes
pub record Describes (text : List ℕ) (file : TypeFile) : Type 0 where
  pub lines : List TypeLine
  pub accepted : outcome_of type_rules text ≡ Ok lines
  pub described : IsFileOf lines file

-- the text has a fault
abbrev pub IsFaulty : List ℕ → Type 0
IsFaulty text = (f : TextFault) × (outcome_of type_rules text ≡ Err f)

-- the file is the one that the text at a path describes, where the source says the text
abbrev pub IsFileAt : Option (List ℕ) → TypeFile → Type 0
IsFileAt held file = IfSome held (λ text. Describes text file)

-- the text of what declares a type has a fault, by the grammar that its first word chooses
abbrev pub IsFaultyDeclaration : List ℕ → Type 0
IsFaultyDeclaration text = (f : TextFault) × HasDeclaredFault text f

-- the declaration is that of the text at a path, where the source says the text
abbrev pub IsDeclaredAt : Option (List ℕ) → Declaration → Type 0
IsDeclaredAt held declaration = IfSome held (λ text. Declares text declaration)
