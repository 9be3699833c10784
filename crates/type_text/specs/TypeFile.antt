-- The file that the lines of a text describe.
use Rattle.std.specs.Prelude.{◌≡◌, ◌↔◌, ◌⊎◌, ◌<◌, ℕ, Bool, true, List, slice_get, Some, Contains, Result, Ok, Err}
use Rattle.type_table.specs.Table.{Table, next, table_at}
use Rattle.type_table.specs.StateSet.{has}
use Rattle.equi_cert.specs.Relation.{relates}
use Rattle.type_table.specs.ConflictTable.{conflicts}
use Rattle.type_table.specs.declared.table_kind.TableKind.{TableKind}
use Rattle.type_table.specs.declared.table_kind.TableKind.TheVariants.{Undo, Intentions}
use Rattle.line_text.specs.Outcome.{outcome_of, IsReached as IsReachedLine}
use Rattle.line_text.specs.Text.{lines_of}
use Rattle.line_text.specs.declared.fault.TextFault.{TextFault}
use Rattle.line_text.specs.declared.fault.FaultKind.TheVariants.{NoMemory}
use Rattle.type_text.specs.declared.type_line.TypeLine.{TypeLine}
use Rattle.type_text.specs.declared.type_line.TypeLine.TheVariants.{TypeName, States, Initial, Step, Reach, Equi, Conflict}
use Rattle.declared_types.specs.declared.type_file.TypeFile.{TypeFile}
use Rattle.type_text.specs.TypeLines.{ops_of, type_rules}

-- the table's parts are what the lines say: its name, states and initial state in the first three, and the entries of its sections
pub record IsTableOf (lines : List TypeLine) (T : Table) : Type 0 where
  pub name : slice_get lines 0 ≡ Some (TypeName T.name)
  pub states : slice_get lines 1 ≡ Some (States T.states)
  pub initial : slice_get lines 2 ≡ Some (Initial T.initial)
  pub ops : T.ops ≡ ops_of lines
  pub steps : (s k t : ℕ) → (next T s k ≡ Some t) ↔ Contains lines (Step s k t)

-- a state of the file's set: one of a `reach` line, or any where there is no `reach` line
abbrev pub IsReached : List TypeLine → ℕ → ℕ → Type 0
IsReached lines states s = Contains lines (Reach s) ⊎ ((s < states) × ((r : ℕ) → Contains lines (Reach r) → ⊥))

-- each part of the file is what the lines of its section say
pub record IsFileOf (lines : List TypeLine) (file : TypeFile) : Type 0 where
  pub table : IsTableOf lines file.table
  pub reach : (s : ℕ) → (has file.reach s ≡ true) ↔ IsReached lines file.table.states s
  pub relation : (s t : ℕ) → s < file.table.states → t < file.table.states → (relates file.relation s t ≡ true) ↔ ((s ≡ t) ⊎ Contains lines (Equi s t))
  pub undo : (p q : ℕ) → (conflicts file.undo p q ≡ true) ↔ Contains lines (Conflict Undo p q)
  pub intentions : (p q : ℕ) → (conflicts file.intentions p q ≡ true) ↔ Contains lines (Conflict Intentions p q)

-- the file of a text that has a value, else the text's fault; or memory was refused at the line that was being read
abbrev pub Reads : Result TypeFile TextFault → List ℕ → Type 0
Reads (Ok file) text = (lines : List TypeLine) × (outcome_of type_rules text ≡ Ok lines) × IsFileOf lines file
Reads (Err f) text = (outcome_of type_rules text ≡ Err f) ⊎ ((f.kind ≡ NoMemory) × IsReachedLine type_rules (lines_of text) f.line)
