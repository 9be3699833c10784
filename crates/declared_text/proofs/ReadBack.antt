-- The first word of a canonical text is the keyword of its first line.
use Rattle.std.proofs.Common.{◌≡◌, ℕ, true, false, eqb, List, [], ◌∷◌, ◌++◌, Result, Ok, Err, refl}
use Rattle.std.specs.Prelude.{OnOk, codes}
use Rattle.std.specs.List.{flat_map, slice_split, onto_first}
use Rattle.line_text.specs.Text.{content_of}
use Rattle.line_text.specs.Shapes.{is_key}
use Rattle.line_text.specs.Spelling.{text_of}
use Rattle.type_text.specs.Canonical as tables
use Rattle.declared_types.specs.declared.type_file.TypeFile.{TypeFile}
use Rattle.number_text.specs.Canonical as numbers
use Rattle.number_types.specs.Number.{Number}
use Rattle.declared_types.specs.declared.declared_type.Declaration.TheVariants.{Table, Number as Numbers}
use Rattle.declared_text.specs.Declared.{is_of_number}
use Rattle.declared_text.specs.Canonical.{canonical_text, IsReadBack}

-- the bytes before the first LF begin a piece
abbrev onto : List ℕ → List (List ℕ) → List (List ℕ)
onto [] pieces = pieces
onto (b ∷ bs) pieces = onto_first b (onto bs pieces)

-- items after the first
abbrev tail : {X : Type 0} → List X → List X
tail [] = []
tail (x ∷ xs) = xs

of_number : (pieces : List (List ℕ)) → is_key (flat_map content_of (onto (codes "number ") pieces)) (codes "number") ≡ true
unfolding is_key
of_number [] = refl
of_number (p ∷ pieces) = refl

of_type : (pieces : List (List ℕ)) → is_key (flat_map content_of (onto (codes "type ") pieces)) (codes "number") ≡ false
unfolding is_key
of_type [] = refl
of_type (p ∷ pieces) = refl

number_first : (number : Number) → is_of_number (canonical_text (Numbers number)) ≡ true
number_first number = of_number (slice_split (λ b. eqb b 10) ((number.name ++ 10 ∷ []) ++ text_of numbers.words_of (tail (numbers.canonical_lines number))))

table_first : (file : TypeFile) → is_of_number (canonical_text (Table file)) ≡ false
table_first file = of_type (slice_split (λ b. eqb b 10) ((file.table.name ++ 10 ∷ []) ++ text_of tables.words_of (tail (tables.canonical_lines file))))

-- what is read back by the grammar is read back
pub number_read_back : {T E : Type 0} (result : Result T E) (number : Number) → OnOk result (numbers.IsReadBack number) → OnOk result (IsReadBack (Numbers number))
number_read_back (Ok done) number back = (number_first number, (numbers.canonical_lines number, back.read, back.described))
number_read_back (Err fault) number back = tt

pub table_read_back : {T E : Type 0} (result : Result T E) (file : TypeFile) → OnOk result (tables.IsReadBack file) → OnOk result (IsReadBack (Table file))
table_read_back (Ok done) file back = (table_first file, (tables.canonical_lines file, back.read, back.described))
table_read_back (Err fault) file back = tt
