-- That what `run`, `work` and `stress` write is the text of a history, and that an audit of it says what the text says.
use Rattle.std.specs.Prelude.{◌≡◌, List, Ok, Err, Result, ℕ}
use Rattle.table_checker.specs.Checked.{Checked}
use Rattle.store_laws.specs.Stored.{Stored}
use Rattle.store_text.specs.Body.{store_outcome}
use Rattle.store_text.specs.Parts.{ReadsStoreText}
use Rattle.store_text.specs.declared.line.ObjectLine.{ObjectLine}
use Rattle.script_text.specs.Script.{IsFit}
use Rattle.script_text.specs.declared.script.Script.{Script}
use Rattle.jobs_text.specs.declared.jobs_file.JobsFile.{JobsFile}
use Rattle.history_text.specs.Canonical.{IsFileWith, canonical_lines}
use Rattle.history_text.specs.Events.{history_body}
use Rattle.history_text.specs.History.{IsHistoryOf}
use Rattle.history_text.specs.declared.history_file.HistoryFile.{HistoryFile}
use Rattle.history_judge.specs.Audit.{Audits}
use Rattle.history_audit.specs.Text.{audit_text}
use Rattle.history_judge.specs.declared.outcome.Audit.{Audit}
use Rattle.history_judge.specs.declared.outcome.AuditFault.{AuditFault}
use Rattle.history_judge.specs.declared.outcome.AuditFault.TheVariants.{NoMemory}
use Rattle.store_files.specs.ObjectTypes.{AreTypesAt}
use Rattle.store_files.specs.Types.{Held}
use Rattle.store_commands.specs.StoreAudit.{tables}
use Rattle.store_files.specs.Jobs.{AreJobsFor}
use Rattle.store_commands.specs.Runs.{IsRunOf}
use Rattle.store_commands.specs.Works.{IsWorkOf}

-- the text has a value as a history, and what is read of it are these objects and the store's events
pub record IsReadAs (lines : List ObjectLine) (s : Stored) (text : List ℕ) : Type 0 where
  pub value : store_outcome history_body text ≡ Ok (canonical_lines lines s.history)
  pub file : (back : HistoryFile) → ReadsStoreText history_body IsHistoryOf (Ok back) text → IsFileWith lines s.history back

-- each audit of the store's events with the tables of its objects has the lines of this one, where memory wasn't refused
abbrev pub IsAuditedAs : Stored → Audit → Type 0
IsAuditedAs s audit =
    (outcome : Result Audit AuditFault) → Audits (tables s) s.history outcome → (outcome ≡ Err NoMemory → ⊥) → audit_text outcome ≡ audit_text (Ok audit)

-- what `run` writes with a yes is read as its store's history, and an audit of it says what its own said
abbrev pub RunIsRead : Type 0
RunIsRead =
    (holds : Held) (words : List (List ℕ)) (script : Script) (types : List Checked) (text : List ℕ) → IsFit script
    → AreTypesAt holds words script.objects.items types → (its : IsRunOf script types text) → IsReadAs script.objects.items its.left text × IsAuditedAs its.left its.audit

-- and so is what `work` or `stress` writes
abbrev pub WorksAreRead : Type 0
WorksAreRead =
    (holds : Held) (words : List (List ℕ)) (workers tries : ℕ) (file : JobsFile) (types : List Checked) (text : List ℕ) → AreJobsFor workers file
    → AreTypesAt holds words file.objects.items types → (its : IsWorkOf file types tries text) → IsReadAs file.objects.items its.left text × IsAuditedAs its.left its.audit
