-- The text that explains says what the answer does.
use Rattle.std.proofs.Common.{◌≡◌, ◌∙◌, ℕ, ◌++◌, List, [], Option, None, Some, refl, sym, ap, subst, inl, inr}
use Rattle.std.specs.Prelude.{IfSome}
use Rattle.std.proofs.KnownBytes.{Appends-trans}
use Rattle.std.specs.Io.KnownBytes.{Appends}
use Rattle.command_files.specs.Answers.{IsThis}
use Rattle.command_files.specs.Files.{IsDeclaredAt}
use Rattle.command_files.specs.Refusals.{no_line}
use Rattle.command_files.specs.declared.status.Verdict.{Verdict}
use Rattle.command_files.specs.declared.status.Verdict.TheVariants.{Yes, No}
use Rattle.table_checker.specs.Checked.{Checked}
use Rattle.declared_types.specs.Declarations.{IsByTable, file_of, rows_of}
use Rattle.table_checker.specs.Laws.{CoversType}
use Rattle.table_checker.specs.Refusal.{IsFirstOfNumeric, IsFirstReason}
use Rattle.declared_types.specs.declared.declared_type.Declaration.{Declaration}
use Rattle.table_checker.specs.declared.refusal.CheckRefusal.{CheckRefusal}
use Rattle.type_table.specs.Kind.{of_table, table_kind}
use Rattle.type_table.specs.declared.kind.Kind.{Kind}
use Rattle.type_table.specs.declared.kind.Kind.TheVariants.{Undo, Intentions, Escrow}
use Rattle.type_table.specs.declared.table_kind.TableKind.{TableKind}
use Rattle.type_table.specs.declared.table_kind.TableKind.TheVariants as tabled
use Rattle.declared_types.specs.declared.type_file.TypeFile.{TypeFile}
use Rattle.type_commands.specs.Explain.{AddsText, CannotBeExplained, Explains, ExplainsBy, ExplainsFault, ExplainsFor, ExplainsPairs, IsYesLine, SaysThen, asked_rows}
use Rattle.type_commands.specs.Verdict.{CannotBeChecked, SaysOf}

-- a kind of a conflict table is one whose types are declared by tables
pub is_by_table : (kind : TableKind) → IsByTable (of_table kind)
is_by_table tabled.Undo = tt
is_by_table tabled.Intentions = tt

-- ---- texts that are added

-- a line, and a text after it
pub adds_both : (a b c : Option (List ℕ)) (first rest : List ℕ → Type 0) (line : List ℕ) → first line → Appends a b line → AddsText b c rest → AddsText a c (SaysThen first rest)
adds_both a b c first rest line says here more =
    (line ++ more.0, (line, more.0, says, more.1, refl), Appends-trans a b c line more.0 here more.2)

-- a text that says something says what follows from it
pub adds_weaker : (a b : Option (List ℕ)) (P Q : List ℕ → Type 0) → ((text : List ℕ) → P text → Q text) → AddsText a b P → AddsText a b Q
adds_weaker a b P Q leads adds = (adds.0, leads adds.0 adds.1, adds.2)

-- what is added to no byte is all that is there
pub added_alone : (P : List ℕ → Type 0) (start all : List ℕ) → start ≡ [] → AddsText (Some start) (Some all) P → P all
added_alone P start all empty adds = subst P (sym (adds.2 ∙ ap (λ l. l ++ adds.0) empty)) adds.1

-- ---- kinds

module _ (file : TypeFile) (asked : Option (ℕ × ℕ)) (numeric : List ℕ → Type 0) (text : List ℕ) where
  -- one with a conflict table
  pub by_table : (kind : Kind) (tk : TableKind) → table_kind kind ≡ Some tk → ExplainsPairs tk file asked text → ExplainsFor kind file asked numeric text
  by_table Undo tk is says = let same : tabled.Undo ≡ tk = cc in subst (λ (k : TableKind). ExplainsPairs k file asked text) (sym same) says
  by_table Intentions tk is says = let same : tabled.Intentions ≡ tk = cc in subst (λ (k : TableKind). ExplainsPairs k file asked text) (sym same) says
  by_table Escrow tk is says = absurd cc

  -- and the one with none
  pub by_number : (kind : Kind) → table_kind kind ≡ None → numeric text → ExplainsFor kind file asked numeric text
  by_number Undo is says = absurd cc
  by_number Intentions is says = absurd cc
  by_number Escrow is says = says

-- whose reason is one of a number
pub numeric_reason : (kind : Kind) (file : TypeFile) (refusal : CheckRefusal) → table_kind kind ≡ None → IsFirstReason kind file refusal → IsFirstOfNumeric file.table refusal
numeric_reason Undo file refusal is first = absurd cc
numeric_reason Intentions file refusal is first = absurd cc
numeric_reason Escrow file refusal is first = first

-- ---- answers

-- the text of a yes
pub yes_explains : (c : Checked) (declaration : Declaration) (asked : Option (ℕ × ℕ)) (all : List ℕ) → c.file ≡ file_of declaration → CoversType c.kind c.file
    → SaysThen (IsYesLine c) (ExplainsBy c.kind declaration asked Yes) all
    → (v : Verdict) (text : List ℕ) → IsThis Yes all v text → Explains c.kind declaration asked v text
yes_explains c declaration asked all same covers says Yes text this =
    let S : TypeFile → Type 0 = λ file. SaysOf c.kind file Yes says.0 in
    record {
      first = says.0;
      rest = says.1;
      checked = subst S same (record { strong = says.2.0; is_strong = says.2.1; covers = covers; line = says.2.2 });
      explained = says.3;
      whole = this.1 ∙ says.4;
    }
yes_explains c declaration asked all same covers says No text this = absurd (let clash = this.0 in cc)

-- and that of a no
pub no_explains : (kind : Kind) (file : TypeFile) (refusal : CheckRefusal) (asked : Option (ℕ × ℕ)) (all : List ℕ) → IsFirstReason kind file refusal
    → SaysThen (λ line. line ≡ no_line refusal) (ExplainsFor kind file asked (ExplainsFault file.table)) all
    → (declaration : Declaration) → file_of declaration ≡ file → (v : Verdict) (text : List ℕ) → IsThis No all v text → Explains kind declaration asked v text
no_explains kind file refusal asked all first says declaration same No text this =
    let S : TypeFile → Type 0 = λ f. SaysOf kind f No says.0 in
    let E : TypeFile → Type 0 = λ f. ExplainsFor kind f asked (ExplainsFault f.table) says.1 in
    record {
      first = says.0;
      rest = says.1;
      checked = subst S (sym same) (record { refusal = refusal; first = first; line = says.2 });
      explained = subst E (sym same) says.3;
      whole = this.1 ∙ says.4;
    }
no_explains kind file refusal asked all first says declaration same Yes text this = absurd (let clash = this.0 in cc)

-- ---- what can't be explained

-- words that name no operations
pub bad_words : (held : Option (List ℕ)) (kind : Kind) (words : Option (List ℕ × List ℕ)) (declaration : Declaration) → IsDeclaredAt held declaration
    → asked_rows (rows_of declaration) words ≡ None → IfSome held (CannotBeExplained kind words)
bad_words None kind words declaration there none = there
bad_words (Some text) kind words declaration there none = inr (declaration, there, none)

-- a text that can't be checked
pub bad_text : (held : Option (List ℕ)) (kind : Kind) (words : Option (List ℕ × List ℕ)) → IfSome held (CannotBeChecked kind) → IfSome held (CannotBeExplained kind words)
bad_text None kind words bad = bad
bad_text (Some text) kind words bad = inl bad
