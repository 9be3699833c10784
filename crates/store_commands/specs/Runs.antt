-- What `run SCRIPT TYPE...` answers.
use Rattle.std.specs.Prelude.{◌≡◌, ◌⊎◌, ℕ, List, [], ◌++◌, Some, None, IfSome, Result, Ok, Err}
use Rattle.outputs.specs.declared.out.OutFault.{OutFault}
use Rattle.table_checker.specs.Checked.{Checked}
use Rattle.store_laws.specs.Stored.{Stored}
use Rattle.script_text.specs.Script.{IsFit}
use Rattle.script_text.specs.declared.script.Script.{Script}
use Rattle.script_run.specs.Runs.{RunsScript}
use Rattle.history_judge.specs.Audit.{Audits}
use Rattle.history_audit.specs.Text.{audit_text}
use Rattle.history_judge.specs.declared.outcome.Audit.{Audit}
use Rattle.history_judge.specs.declared.outcome.AuditFault.{AuditFault}
use Rattle.command_files.specs.Answers.{Answers}
use Rattle.command_files.specs.declared.status.Verdict.TheVariants.{Yes, No}
use Rattle.store_files.specs.ObjectTypes.{AreTypesAt, HasFault, SaysRefused}
use Rattle.store_files.specs.Scripts.{DescribesScript, IsFaultyScript}
use Rattle.store_files.specs.Types.{Held}
use Rattle.store_commands.specs.StoreAudit.{HasSerialRun, IsPassed, new_store, text_limits, tables}

-- the text is that of a run of the script at a new store of these types, and then the lines of an audit of the store's history that says
-- yes; and the history is a serial run
pub record IsRunOf (script : Script) (types : List Checked) (text : List ℕ) : Type 0 where
  pub run : List ℕ
  pub left : Stored
  pub ran : RunsScript (new_store types (text_limits script.size script.max)) script (Some []) (Some run) None left (Ok tt)
  pub audit : Audit
  pub audited : Audits (tables left) left.history (Ok audit)
  pub history : HasSerialRun left
  pub is : text ≡ run ++ audit_text (Ok audit)

-- the text is that of a whole run, and then the lines of an audit that says yes, or none where memory was refused for it
pub record IsWholeRun (script : Script) (types : List Checked) (text : List ℕ) : Type 0 where
  pub run : List ℕ
  pub left : Stored
  pub ran : RunsScript (new_store types (text_limits script.size script.max)) script (Some []) (Some run) None left (Ok tt)
  pub outcome : Result Audit AuditFault
  pub passed : IsPassed left outcome
  pub is : text ≡ run ++ audit_text outcome

-- the output took this text of a run, and stopped it
pub record StopsRun (script : Script) (types : List Checked) (text : List ℕ) : Type 0 where
  pub left : Stored
  pub fault : OutFault
  pub ran : RunsScript (new_store types (text_limits script.size script.max)) script (Some []) (Some text) (Some fault) left (Err fault)

-- what a run begins to write
abbrev pub BeginsRun : Script → List Checked → List ℕ → Type 0
BeginsRun script types text = IsWholeRun script types text ⊎ StopsRun script types text

-- its answer, which is never no
abbrev pub RunsOf : Script → List Checked → Answers
RunsOf script types Yes text = IsRunOf script types text
RunsOf script types No text = ⊥

-- the script is the one at its path, with numbers and counts in their ranges
abbrev pub IsScriptAt : Held → List ℕ → Script → Type 0
IsScriptAt holds path script = IfSome (holds path) (λ text. DescribesScript text script) × IsFit script

-- yes with the text of a run of the script at its path, at objects of the types that are named with it; or no with the line of an object
-- whose type isn't accepted
abbrev pub RunsFile : Held → List ℕ → List (List ℕ) → Answers
RunsFile holds path words Yes text =
    (script : Script) × (types : List Checked) × IsScriptAt holds path script × AreTypesAt holds words script.objects.items types × IsRunOf script types text
RunsFile holds path words No text = (script : Script) × IsScriptAt holds path script × SaysRefused holds words script.objects.items text

-- what it writes as a whole where memory was refused
abbrev pub WritesRunFile : Held → List ℕ → List (List ℕ) → List ℕ → Type 0
WritesRunFile holds path words text =
    (script : Script) × (types : List Checked) × IsScriptAt holds path script × AreTypesAt holds words script.objects.items types × IsWholeRun script types text

-- what it begins to write
abbrev pub BeginsRunFile : Held → List ℕ → List (List ℕ) → List ℕ → Type 0
BeginsRunFile holds path words text =
    ((script : Script) × (types : List Checked) × IsScriptAt holds path script × AreTypesAt holds words script.objects.items types × BeginsRun script types text)
    ⊎ RunsFile holds path words No text

-- the script's text has a fault; or it has none, and a type's text has one, or an object names no type, or a number without escrow
abbrev pub HasRunFault : Held → List ℕ → List (List ℕ) → Type 0
HasRunFault = HasFault DescribesScript IsFaultyScript (λ (script : Script). script.objects.items)
