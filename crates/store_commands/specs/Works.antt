-- What `work` and `stress` answer: `--workers N [--tries K] JOBS TYPE...`.
use Rattle.std.specs.Prelude.{◌≡◌, ◌⊎◌, ℕ, List, false, true, length, map, take, Option, None, IfSome, is_some, Bool, ◌&&◌, ◌==◌, Result, Ok, Err}
use Rattle.std.specs.Io.KnownBytes.{Appends}
use Rattle.jobs_text.specs.Jobs.{calls_in}
use Rattle.jobs_text.specs.declared.jobs_file.JobsFile.{JobsFile}
use Rattle.table_checker.specs.Checked.{Checked}
use Rattle.store_text.specs.declared.line.ObjectLine.{ObjectLine}
use Rattle.store_laws.specs.Stored.{Stored}
use Rattle.history_judge.specs.Audit.{Audits}
use Rattle.history_judge.specs.declared.outcome.Audit.{Audit}
use Rattle.history_judge.specs.declared.outcome.AuditFault.{AuditFault}
use Rattle.script_run.specs.Runs.{AreKept}
use Rattle.work_text.specs.Text.{work_text}
use Rattle.worker_turns.specs.declared.outcome.Report.{Report}
use Rattle.workers.specs.SharedState.{Start}
use Rattle.workers.specs.Worked.{Works}
use Rattle.workers.specs.declared.fault.WorkFault.{WorkFault}
use Rattle.command_files.specs.Answers.{Answers}
use Rattle.command_files.specs.declared.fault.Fault.{Fault}
use Rattle.command_files.specs.declared.fault.Fault.TheVariants.{NoMemory, Output}
use Rattle.command_files.specs.declared.status.Verdict.{Verdict}
use Rattle.command_files.specs.declared.status.Verdict.TheVariants.{Yes, No}
use Rattle.store_files.specs.Jobs.{AreJobsFor, DescribesJobs, IsFaultyJobs}
use Rattle.store_files.specs.ObjectTypes.{AreTypesAt, HasFault, SaysRefused}
use Rattle.store_files.specs.Types.{Held}
use Rattle.store_commands.specs.StoreAudit.{HasSerialRun, IsPassed, new_store, tables, text_limits}

-- the work that begins at a new store of these types: these jobs, each tried this often
abbrev pub start_of_work : JobsFile → List Checked → ℕ → Start
start_of_work file types tries = record { store = new_store types (text_limits file.size file.max); jobs = map calls_in file.jobs.items; tries = tries }

-- the text is that of what workers did at a store, with an audit and their reports, and with kept states of its first objects
pub record IsTextOf (lines : List ObjectLine) (left : Stored) (outcome : Result Audit AuditFault) (reports : List Report) (text : List ℕ) : Type 0 where
  pub kept : List ℕ
  pub are_kept : AreKept left kept
  pub is : text ≡ work_text lines left.history kept outcome reports

-- and with those of all of them
pub record IsWholeTextOf (lines : List ObjectLine) (left : Stored) (outcome : Result Audit AuditFault) (reports : List Report) (text : List ℕ) : Type 0 where
  pub kept : List ℕ
  pub are_kept : AreKept left kept
  pub all : length kept ≡ length left.types
  pub is : text ≡ work_text lines left.history kept outcome reports

-- all workers did their jobs, and the text is that of it, with an audit that says yes; and the history is a serial run
pub record IsWorkOf (file : JobsFile) (types : List Checked) (tries : ℕ) (text : List ℕ) : Type 0 where
  pub left : Stored
  pub reports : List Report
  pub worked : Works (start_of_work file types tries) None left reports
  pub audit : Audit
  pub audited : Audits (tables left) left.history (Ok audit)
  pub history : HasSerialRun left
  pub told : IsWholeTextOf file.objects.items left (Ok audit) reports text

-- the workers came to a fault before their first turn
abbrev pub did_nothing : Option WorkFault → List Report → Bool
did_nothing fault reports = is_some fault && length reports == 0

-- the text of what workers did, all of them or those before one that wasn't started, with an audit that says yes, or without one where
-- memory was refused for it
pub record IsWholeWorkText (file : JobsFile) (types : List Checked) (tries : ℕ) (text : List ℕ) : Type 0 where
  pub left : Stored
  pub reports : List Report
  pub fault : Option WorkFault
  pub worked : Works (start_of_work file types tries) fault left reports
  pub some : did_nothing fault reports ≡ false
  pub outcome : Result Audit AuditFault
  pub passed : IsPassed left outcome
  pub told : IsWholeTextOf file.objects.items left outcome reports text

-- the same where the output may have stopped among the kept states, and the text has those of the first objects alone
pub record BeginsWork (file : JobsFile) (types : List Checked) (tries : ℕ) (text : List ℕ) : Type 0 where
  pub left : Stored
  pub reports : List Report
  pub fault : Option WorkFault
  pub worked : Works (start_of_work file types tries) fault left reports
  pub some : did_nothing fault reports ≡ false
  pub outcome : Result Audit AuditFault
  pub passed : IsPassed left outcome
  pub told : IsTextOf file.objects.items left outcome reports text

-- what is written of workers that came to such a fault, or to none: an answer is yes, where there is no fault and the audit is a yes; where
-- memory was refused nothing was written before the first turn, else the whole text; and where the output failed a beginning of a text
abbrev pub TellsWork : Stored → List ObjectLine → List Report → Option WorkFault → Result Verdict Fault → Option (List ℕ) → Option (List ℕ) → Type 0
TellsWork s lines reports fault (Ok Yes) old new =
    (fault ≡ None) × (audit : Audit) × IsPassed s (Ok audit) × (text : List ℕ) × IsWholeTextOf lines s (Ok audit) reports text × Appends old new text
TellsWork s lines reports fault (Err NoMemory) old new =
    ((did_nothing fault reports ≡ true) × (new ≡ old)) ⊎ ((did_nothing fault reports ≡ false) × (outcome : Result Audit AuditFault) × IsPassed s outcome × (text : List ℕ)
    × IsWholeTextOf lines s outcome reports text × Appends old new text)
TellsWork s lines reports fault (Err Output) old new =
    (did_nothing fault reports ≡ false) × (outcome : Result Audit AuditFault) × IsPassed s outcome × (text : List ℕ) × (n : ℕ)
    × IsTextOf lines s outcome reports text × Appends old new (take n text)
TellsWork s lines reports fault result old new = ⊥

-- the answer of workers, which is never no
abbrev pub WorksOf : JobsFile → List Checked → ℕ → Answers
WorksOf file types tries Yes text = IsWorkOf file types tries text
WorksOf file types tries No text = ⊥

-- the jobs of the workers are those at their path
abbrev pub AreJobsAt : Held → ℕ → List ℕ → JobsFile → Type 0
AreJobsAt holds workers path file = IfSome (holds path) (λ text. DescribesJobs workers text file) × AreJobsFor workers file

-- yes with the text of the work of the jobs at their path, at objects of the types that are named with them; or no with the line of an
-- object whose type isn't accepted
abbrev pub WorksFile : Held → ℕ → ℕ → List ℕ → List (List ℕ) → Answers
WorksFile holds workers tries path words Yes text =
    (file : JobsFile) × (types : List Checked) × AreJobsAt holds workers path file × AreTypesAt holds words file.objects.items types × IsWorkOf file types tries text
WorksFile holds workers tries path words No text = (file : JobsFile) × AreJobsAt holds workers path file × SaysRefused holds words file.objects.items text

-- what it writes as a whole where memory was refused
abbrev pub WritesWorkFile : Held → ℕ → ℕ → List ℕ → List (List ℕ) → List ℕ → Type 0
WritesWorkFile holds workers tries path words text =
    (file : JobsFile) × (types : List Checked) × AreJobsAt holds workers path file × AreTypesAt holds words file.objects.items types × IsWholeWorkText file types tries text

-- what it begins to write
abbrev pub BeginsWorkFile : Held → ℕ → ℕ → List ℕ → List (List ℕ) → List ℕ → Type 0
BeginsWorkFile holds workers tries path words text =
    ((file : JobsFile) × (types : List Checked) × AreJobsAt holds workers path file × AreTypesAt holds words file.objects.items types × BeginsWork file types tries text)
    ⊎ WorksFile holds workers tries path words No text

-- the text of the jobs has a fault; or it has none, and a type's text has one, or an object names no type, or a number without escrow
abbrev pub HasWorkFault : Held → ℕ → List ℕ → List (List ℕ) → Type 0
HasWorkFault holds workers path words = HasFault (DescribesJobs workers) (IsFaultyJobs workers) (λ (file : JobsFile). file.objects.items) holds path words
