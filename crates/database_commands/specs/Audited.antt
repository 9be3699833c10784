-- What `audit --database DATABASE` answers.
use Rattle.std.specs.Prelude.{◌≡◌, ◌≢◌, ⊤, ℕ, List, map, Option, IfSome, Result, Ok, Err}
use Rattle.sqlite_trees.specs.Tree.{Trees}
use Rattle.type_table.specs.Table.{Table}
use Rattle.table_checker.specs.Checked.{Checked}
use Rattle.event_text.specs.EventText.{events_of_kinds}
use Rattle.history_judge.specs.Audit as history
use Rattle.history_audit.specs.Text.{audit_text}
use Rattle.history_judge.specs.declared.outcome.Audit.{Audit}
use Rattle.history_judge.specs.declared.outcome.AuditFault.{AuditFault}
use Rattle.history_judge.specs.declared.outcome.AuditFault.TheVariants.{BadEvent, IllegalOp, NoMemory}
use Rattle.journal.specs.Contents.{Contents, contents_of}
use Rattle.durable_store.specs.Types.{HasTypes}
use Rattle.command_files.specs.Answers.{Answers}
use Rattle.command_files.specs.declared.status.Verdict.{Verdict}
use Rattle.command_files.specs.declared.status.Verdict.TheVariants.{Yes, No}

-- the tables of types, each of which begins at the state of its object
abbrev pub checked_tables : List Checked → List Table
checked_tables types = map (λ (c : Checked). c.file.table) types

-- the audit of the events of a file at the states where they begin has this outcome, and the text is its lines
pub record IsAuditOfContents (c : Contents) (outcome : Result Audit AuditFault) (text : List ℕ) : Type 0 where
  pub types : List Checked
  pub are : HasTypes c types
  pub audits : history.Audits (checked_tables types) (events_of_kinds c.events) outcome
  pub is : text ≡ audit_text outcome

-- yes with the order and the states, or no with the first fault
abbrev pub AuditsContents : Contents → Answers
AuditsContents c Yes text = (audit : Audit) × IsAuditOfContents c (Ok audit) text
AuditsContents c No text = (fault : AuditFault) × (fault ≢ NoMemory) × IsAuditOfContents c (Err fault) text

-- that of what is held, if no wrong answer of a disk was taken as true
abbrev pub AuditsDatabase : Type 0 → Option Trees → Answers
AuditsDatabase clean held verdict text = clean → IfSome held (λ db. AuditsContents (contents_of db) verdict text)

-- ---- inside the command

-- the verdict of an audit that has one
abbrev pub IsVerdictOf : Result Audit AuditFault → Verdict → Type 0
IsVerdictOf (Ok audit) Yes = ⊤
IsVerdictOf (Err (BadEvent at)) No = ⊤
IsVerdictOf (Err (IllegalOp i x j)) No = ⊤
IsVerdictOf outcome verdict = ⊥
