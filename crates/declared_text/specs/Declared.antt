-- The type that a text declares: by a table, or as a number.
use Rattle.std.specs.Prelude.{◌≡◌, ℕ, Bool, true, false, List, ◌==◌, slice_get, Some, Result, Ok, Err, codes}
use Rattle.std.specs.List.{flat_map, slice_split}
use Rattle.line_text.specs.Text.{content_of}
use Rattle.line_text.specs.Shapes.{is_key}
use Rattle.line_text.specs.Outcome.{outcome_of}
use Rattle.line_text.specs.declared.fault.TextFault.{TextFault}
use Rattle.type_text.specs.TypeLines.{type_rules}
use Rattle.type_text.specs.TypeFile as tables
use Rattle.number_text.specs.NumberLines.{number_rules}
use Rattle.number_text.specs.NumberFile as numbers
use Rattle.declared_types.specs.declared.declared_type.Declaration.{Declaration}
use Rattle.declared_types.specs.declared.declared_type.Declaration.TheVariants.{Table, Number as Numbers}

-- the words of a text, of which comments have none
abbrev pub words_in : List ℕ → List (List ℕ)
words_in text = flat_map content_of (slice_split (λ b. b == 10) text)

-- the first of some words
abbrev pub IsFirst : List (List ℕ) → List ℕ → Type 0
IsFirst words word = slice_get words 0 ≡ Some word

-- a text is a number's where its first word is `number`
abbrev pub is_of_number : List ℕ → Bool
is_of_number text = is_key (words_in text) (codes "number")

-- a text declares a type: the grammar that its first word chooses reads it so
abbrev pub Declares : List ℕ → Declaration → Type 0
Declares text (Table file) = (is_of_number text ≡ false) × tables.Reads (Ok file) text
Declares text (Numbers number) = (is_of_number text ≡ true) × numbers.Reads (Ok number) text

-- the fault of a text by one of the grammars
abbrev pub HasFaultBy : Bool → List ℕ → TextFault → Type 0
HasFaultBy true text f = outcome_of number_rules text ≡ Err f
HasFaultBy false text f = outcome_of type_rules text ≡ Err f

-- the fault of a text that declares no type
abbrev pub HasDeclaredFault : List ℕ → TextFault → Type 0
HasDeclaredFault text f = HasFaultBy (is_of_number text) text f

-- such a fault, or memory was refused at the line that was being read
abbrev pub FailsBy : Bool → List ℕ → TextFault → Type 0
FailsBy true text f = numbers.Reads (Err f) text
FailsBy false text f = tables.Reads (Err f) text

-- what a text declares, or why nothing
abbrev pub ReadsDeclaration : Result Declaration TextFault → List ℕ → Type 0
ReadsDeclaration (Ok declaration) text = Declares text declaration
ReadsDeclaration (Err f) text = FailsBy (is_of_number text) text f
