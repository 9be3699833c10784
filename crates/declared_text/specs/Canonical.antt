-- The canonical text of what declares a type.
use Rattle.std.specs.Prelude.{ℕ, List}
use Rattle.type_text.specs.Canonical as tables
use Rattle.number_text.specs.Canonical as numbers
use Rattle.declared_types.specs.declared.declared_type.Declaration.{Declaration}
use Rattle.declared_types.specs.declared.declared_type.Declaration.TheVariants.{Table, Number as Numbers}
use Rattle.declared_text.specs.Declared.{Declares}

abbrev pub canonical_text : Declaration → List ℕ
canonical_text (Table file) = tables.canonical_text file
canonical_text (Numbers number) = numbers.canonical_text number

-- the text declares this type
abbrev pub IsReadBack : Declaration → Type 0
IsReadBack declaration = Declares (canonical_text declaration) declaration
