-- What `explain KIND FILE [P Q]` answers.
use Rattle.std.specs.Prelude.{◌≡◌, ◌⊎◌, ◌↔◌, ℕ, ◌<◌, Bool, true, ◌||◌, ◌++◌, ◌==◌, List, length, filter, nat_lt, Option, Some, None, if◌then◌else◌}
use Rattle.std.specs.List.{position, range_with_len}
use Rattle.std.specs.Option.{option_map, option_and_then}
use Rattle.std.specs.Str.{bytes_eq}
use Rattle.command_files.specs.Files.{IsDeclaredAt}
use Rattle.command_files.specs.declared.status.Verdict.{Verdict}
use Rattle.command_files.specs.declared.status.Verdict.TheVariants.{Yes, No}
use Rattle.declared_text.specs.Declared.{Declares}
use Rattle.escrow_laws.specs.Faults.{IsFirstNumericFault}
use Rattle.pair_needs.specs.Explained.{IsExplained, AreRows}
use Rattle.pair_needs.specs.Leads.{IsLedSet}
use Rattle.pair_needs.specs.WhyNot.{IsWhyNot}
use Rattle.need_text.specs.Numeric.{why_not_line}
use Rattle.need_text.specs.Text.{word_of, pair_text, explanation_text}
use Rattle.pair_needs.specs.declared.explained.Explained.{Explained}
use Rattle.pair_needs.specs.declared.explained.Row.{Row}
use Rattle.pair_needs.specs.declared.numeric_fault.WhyNot.{WhyNot}
use Rattle.decimals.specs.Decimals.{number_of}
use Rattle.type_table.specs.Table.{Table}
use Rattle.type_table.specs.declared.kind.Kind.{Kind}
use Rattle.type_table.specs.declared.kind.Kind.TheVariants.{Undo, Intentions, Escrow}
use Rattle.type_table.specs.declared.op.Op.{Op}
use Rattle.type_table.specs.declared.table_kind.TableKind.{TableKind}
use Rattle.type_table.specs.declared.table_kind.TableKind.TheVariants as tabled
use Rattle.declared_types.specs.declared.type_file.TypeFile.{TypeFile}
use Rattle.std.specs.Borrow.{Bor}
use Rattle.std.specs.Io.KnownBytes.{Appends}
use Rattle.table_checker.specs.Checked.{Checked, IsStrong}
use Rattle.declared_types.specs.Declarations.{IsDeclaredFor, file_of, rows_of, table_of}
use Rattle.declared_types.specs.declared.declared_type.Declaration.{Declaration}
use Rattle.type_commands.specs.declared.explain.Asked.{Asked}
use Rattle.type_commands.specs.Rows.{rows_text}
use Rattle.type_commands.specs.Verdict.{CannotBeChecked, SaysOf, yes_line}

-- ---- which pair

-- a row of a type by its number
abbrev pub numbered : List Op → ℕ → Option ℕ
numbered rows n = if nat_lt n (length rows) then Some n else None

-- or by its word, CALL/REPLY
abbrev pub worded : List Op → List ℕ → Option ℕ
worded rows word = position (λ (op : Op). bytes_eq (word_of op) word) rows

abbrev pub named_by : List Op → List ℕ → Option ℕ → Option ℕ
named_by rows word (Some n) = numbered rows n
named_by rows word None = worded rows word

-- the row that a word names
abbrev pub row_named : List Op → List ℕ → Option ℕ
row_named rows word = named_by rows word (number_of word)

-- the pair of rows that two words name
abbrev pub row_pair_of : List Op → List ℕ → List ℕ → Option (ℕ × ℕ)
row_pair_of rows p q = option_and_then (λ first. option_map (λ second. (first, second)) (row_named rows q)) (row_named rows p)

-- no words ask for all pairs, two for the pair that they name; None where they name none
abbrev pub asked_rows : List Op → Option (List ℕ × List ℕ) → Option (Option (ℕ × ℕ))
asked_rows rows None = Some None
asked_rows rows (Some words) = option_map (λ pair. Some pair) (row_pair_of rows words.0 words.1)

-- two words behind references
abbrev pub words_as : Option (Bor (List ℕ) × Bor (List ℕ)) → Option (List ℕ × List ℕ)
words_as words = option_map (λ (w : Bor (List ℕ) × Bor (List ℕ)). (w.0.now, w.1.now)) words

-- a pair of rows
abbrev pub pair_as : Option Asked → Option (ℕ × ℕ)
pair_as asked = option_map (λ (a : Asked). (a.p, a.q)) asked

abbrev pub asked_as : Option (Option Asked) → Option (Option (ℕ × ℕ))
asked_as asked = option_map pair_as asked

-- both are operations of a table
abbrev pub AreOps : Table → Asked → Type 0
AreOps T asked = (asked.p < length T.ops) × (asked.q < length T.ops)

-- ---- the lines after that of `check`

-- with a conflict table: on all pairs, or on the one that is asked for
abbrev pub ExplainsPairs : TableKind → TypeFile → Option (ℕ × ℕ) → List ℕ → Type 0
ExplainsPairs kind file None text =
    (led : List Bool) × (rows : List Row) × IsLedSet file.table led × AreRows kind file rows × (text ≡ explanation_text kind file led rows)
ExplainsPairs kind file (Some pair) text =
    (led : List Bool) × (e : Explained) × IsLedSet file.table led × IsExplained kind file pair.0 pair.1 e × (text ≡ pair_text kind file led e)

-- a row that is asked for
abbrev pub is_asked : Option (ℕ × ℕ) → ℕ → Bool
is_asked None k = true
is_asked (Some pair) k = k == pair.0 || k == pair.1

abbrev pub rows_asked : Declaration → Option (ℕ × ℕ) → List ℕ
rows_asked declaration asked = filter (is_asked asked) (range_with_len 0 (length (rows_of declaration)))

-- escrow: why a type isn't numeric
abbrev pub ExplainsFault : Table → List ℕ → Type 0
ExplainsFault T text = (k : ℕ) × (s : ℕ) × (w : WhyNot) × IsFirstNumericFault T k s × IsWhyNot T k s w × (text ≡ why_not_line T k s w)

-- the lines of the rows that are asked for, or that
abbrev pub ExplainsNumber : Declaration → Option (ℕ × ℕ) → Verdict → List ℕ → Type 0
ExplainsNumber declaration asked Yes text = text ≡ rows_text declaration (rows_asked declaration asked)
ExplainsNumber declaration asked No text = ExplainsFault (table_of declaration) text

-- by the kind: the pairs of a file, or for escrow these lines
abbrev pub ExplainsFor : Kind → TypeFile → Option (ℕ × ℕ) → (List ℕ → Type 0) → List ℕ → Type 0
ExplainsFor Undo file asked numeric text = ExplainsPairs tabled.Undo file asked text
ExplainsFor Intentions file asked numeric text = ExplainsPairs tabled.Intentions file asked text
ExplainsFor Escrow file asked numeric text = numeric text

abbrev pub ExplainsBy : Kind → Declaration → Option (ℕ × ℕ) → Verdict → List ℕ → Type 0
ExplainsBy kind declaration asked verdict text = ExplainsFor kind (file_of declaration) asked (ExplainsNumber declaration asked verdict) text

-- ---- the answer

-- to what is asked of a type: the line of `check`, and the lines after it
pub record Explains (kind : Kind) (declaration : Declaration) (asked : Option (ℕ × ℕ)) (verdict : Verdict) (text : List ℕ) : Type 0 where
  pub first : List ℕ
  pub rest : List ℕ
  pub checked : SaysOf kind (file_of declaration) verdict first
  pub explained : ExplainsBy kind declaration asked verdict rest
  pub whole : text ≡ first ++ rest

-- the answer to what is declared at a path, by what is held there
pub record ExplainsFile (held : Option (List ℕ)) (kind : Kind) (words : Option (List ℕ × List ℕ)) (verdict : Verdict) (text : List ℕ) : Type 0 where
  pub declaration : Declaration
  pub asked : Option (ℕ × ℕ)
  pub declared : IsDeclaredAt held declaration
  pub fits : IsDeclaredFor kind declaration
  pub names : asked_rows (rows_of declaration) words ≡ Some asked
  pub explains : Explains kind declaration asked verdict text

-- the text has a fault, or declares a number, and the kind isn't escrow; or the words name no rows of its type
abbrev pub CannotBeExplained : Kind → Option (List ℕ × List ℕ) → List ℕ → Type 0
CannotBeExplained kind words text =
    CannotBeChecked kind text ⊎ ((declaration : Declaration) × Declares text declaration × (asked_rows (rows_of declaration) words ≡ None))

-- ---- how it is put together

-- known bytes grow by such a text
abbrev pub AddsText : Option (List ℕ) → Option (List ℕ) → (List ℕ → Type 0) → Type 0
AddsText old new says = (text : List ℕ) × says text × Appends old new text

-- such a line, and such a text after it
abbrev pub SaysThen : (List ℕ → Type 0) → (List ℕ → Type 0) → List ℕ → Type 0
SaysThen first rest text = (line : List ℕ) × (after : List ℕ) × first line × rest after × (text ≡ line ++ after)

-- the line of a yes for a type
abbrev pub IsYesLine : Checked → List ℕ → Type 0
IsYesLine c line = (strong : Bool) × ((strong ≡ true) ↔ IsStrong c) × (line ≡ yes_line strong)
