-- The canonical text of a type file: its sections in the order of their ranks, the entries of each ascending, one line for each.
use Rattle.std.specs.Prelude.{◌≡◌, ℕ, Bool, true, not, ◌&&◌, List, [], ◌∷◌, ◌++◌, length, map, ◌==◌, if◌then◌else◌, Option, Some, None, Ok, All, codes}
use Rattle.std.specs.Fmt.{decimal}
use Rattle.std.specs.List.{flat_map, list_all, range_with_len}
use Rattle.std.specs.Option.{option_map, option_to_list}
use Rattle.type_table.specs.Name.{is_name}
use Rattle.type_table.specs.Kind.{table_kind_word}
use Rattle.type_table.specs.Table.{Table, IsTable, next}
use Rattle.type_table.specs.StateSet.{has}
use Rattle.type_table.specs.ConflictTable.{conflicts, IsSquare}
use Rattle.type_table.specs.declared.table_kind.TableKind.TheVariants.{Undo, Intentions}
use Rattle.type_table.specs.declared.op.Op.{Op}
use Rattle.equi_cert.specs.Relation.{relates, IsRelation}
use Rattle.line_text.specs.Spelling.{text_of}
use Rattle.line_text.specs.Outcome.{outcome_of}
use Rattle.type_text.specs.TypeLines.{type_rules}
use Rattle.type_text.specs.TypeFile.{IsFileOf, Reads}
use Rattle.declared_types.specs.TypeFile.{conflicts_of, is_whole, IsSameFile}
use Rattle.declared_types.specs.declared.type_file.TypeFile.{TypeFile}
use Rattle.type_text.specs.declared.type_line.TypeLine.{TypeLine}
use Rattle.type_text.specs.declared.type_line.TypeLine.TheVariants.{TypeName, States, Initial, Operation, Step, Reach, Equi, Conflict, End}
use Rattle.type_text.specs.declared.entries.Entries.{Entries}
use Rattle.type_text.specs.declared.entries.Entries.TheVariants.{Steps, Members, Pairs, Conflicts}

-- ---- a line

-- the words of a line
abbrev pub words_of : TypeLine → List (List ℕ)
words_of (TypeName name) = codes "type" ∷ name ∷ []
words_of (States states) = codes "states" ∷ decimal states ∷ []
words_of (Initial s) = codes "initial" ∷ decimal s ∷ []
words_of (Operation op) = codes "op" ∷ op.call ∷ op.reply ∷ []
words_of (Step s k t) = codes "step" ∷ decimal s ∷ decimal k ∷ decimal t ∷ []
words_of (Reach s) = codes "reach" ∷ decimal s ∷ []
words_of (Equi s t) = codes "equi" ∷ decimal s ∷ decimal t ∷ []
words_of (Conflict kind p q) = codes "conflict" ∷ table_kind_word kind ∷ decimal p ∷ decimal q ∷ []
words_of End = codes "end" ∷ []

-- ---- a section of entries: a grid of cells, of which each is an entry of the file or isn't

-- the line of a cell that is an entry
abbrev pub line_where : Bool → TypeLine → Option TypeLine
line_where is_entry line = if is_entry then Some line else None

-- the rows of the grid; a set of all states has none, since a text without `reach` lines says it
abbrev pub rows : TypeFile → Entries → ℕ
rows file Steps = file.table.states
rows file Members = if is_whole file.reach then 0 else file.table.states
rows file Pairs = file.table.states
rows file (Conflicts kind) = length file.table.ops

abbrev pub columns : TypeFile → Entries → ℕ
columns file Steps = length file.table.ops
columns file Members = 1
columns file Pairs = file.table.states
columns file (Conflicts kind) = length file.table.ops

-- the line of a cell
abbrev pub line_at : TypeFile → Entries → ℕ → ℕ → Option TypeLine
line_at file Steps s k = option_map (Step s k) (next file.table s k)
line_at file Members s column = line_where (has file.reach s) (Reach s)
line_at file Pairs s t = line_where (relates file.relation s t && not (s == t)) (Equi s t)
line_at file (Conflicts kind) p q = line_where (conflicts (conflicts_of kind file) p q) (Conflict kind p q)

-- the lines of a row, and of the whole section
abbrev pub lines_of_row : TypeFile → Entries → ℕ → List TypeLine
lines_of_row file entries row = flat_map (λ column. option_to_list (line_at file entries row column)) (range_with_len 0 (columns file entries))

abbrev pub lines_of_entries : TypeFile → Entries → List TypeLine
lines_of_entries file entries = flat_map (lines_of_row file entries) (range_with_len 0 (rows file entries))

-- ---- the text

abbrev pub canonical_lines : TypeFile → List TypeLine
canonical_lines file =
    TypeName file.table.name ∷ States file.table.states ∷ Initial file.table.initial ∷ []
    ++ map Operation file.table.ops
    ++ lines_of_entries file Steps
    ++ lines_of_entries file Members
    ++ lines_of_entries file Pairs
    ++ lines_of_entries file (Conflicts Undo)
    ++ lines_of_entries file (Conflicts Intentions)
    ++ End ∷ []

abbrev pub canonical_text : TypeFile → List ℕ
canonical_text file = text_of words_of (canonical_lines file)

-- ---- that it is read again

-- the names of a line are names
abbrev pub IsNamed : TypeLine → Type 0
IsNamed (TypeName name) = is_name name ≡ true
IsNamed (Operation op) = (is_name op.call ≡ true) × (is_name op.reply ≡ true)
IsNamed _ = Unit {0}

-- the names of a table are names
pub record HasNames (T : Table) : Type 0 where
  pub name : is_name T.name ≡ true
  pub ops : All (λ (op : Op). (is_name op.call ≡ true) × (is_name op.reply ≡ true)) T.ops

-- what is known of the parts of each file
pub record IsTypeFile (file : TypeFile) : Type 0 where
  pub table : IsTable file.table
  pub relation : IsRelation file.relation
  pub undo : IsSquare (length file.table.ops) file.undo
  pub intentions : IsSquare (length file.table.ops) file.intentions

-- the text is read, and what is read is this file
pub record IsReadBack (file : TypeFile) : Type 0 where
  pub read : outcome_of type_rules (canonical_text file) ≡ Ok (canonical_lines file)
  pub described : IsFileOf (canonical_lines file) file

-- ---- statements of laws

-- the canonical text of a file is read as that file
abbrev pub CanonicalIsRead : Type 0
CanonicalIsRead = (file : TypeFile) → IsTypeFile file → HasNames file.table → IsReadBack file

-- two files that the same lines describe have the same parts
abbrev pub LinesTellTheFile : Type 0
LinesTellTheFile = (lines : List TypeLine) (a b : TypeFile) → IsTypeFile a → IsTypeFile b → IsFileOf lines a → IsFileOf lines b → IsSameFile a b

-- what a reading answers of the canonical text of a file has the parts of that file
abbrev pub WrittenIsRead : Type 0
WrittenIsRead = (file back : TypeFile) → IsTypeFile file → HasNames file.table → IsTypeFile back → Reads (Ok back) (canonical_text file) → IsSameFile file back
