-- The answer to a history that was read.
use Rattle.std.proofs.Common.{◌≡◌, ◌≢◌, ◌∙◌, ℕ, List, Result, Ok, Err, subst}
use Rattle.type_table.specs.Table.{Table}
use Rattle.declared_types.specs.declared.declared_type.Declaration.{Declaration}
use Rattle.object_trait.specs.declared.event.Event.{Event}
use Rattle.store_text.specs.declared.line.ObjectLine.{ObjectLine}
use Rattle.history_text.specs.declared.history_file.HistoryFile.{HistoryFile}
use Rattle.history_judge.specs.Audit.{Audits}
use Rattle.history_audit.specs.Text.{audit_text}
use Rattle.history_judge.specs.declared.outcome.Audit.{Audit}
use Rattle.history_judge.specs.declared.outcome.AuditFault.{AuditFault}
use Rattle.history_judge.specs.declared.outcome.AuditFault.TheVariants.{NoMemory}
use Rattle.command_files.specs.Answers.{IsThis}
use Rattle.command_files.specs.declared.status.Verdict.{Verdict}
use Rattle.command_files.specs.declared.status.Verdict.TheVariants.{Yes, No}
use Rattle.store_files.specs.Types.{AreTablesOf}
use Rattle.store_commands.specs.Audited.{AuditsRead, IsAuditOf, IsSaid}

module _ (history : HistoryFile) (declared : List Declaration) (tables given : List Table) (objects : List ObjectLine) (events : List Event) (outcome : Result Audit AuditFault)
    (objects_are : objects ≡ history.objects.items) (events_are : events ≡ history.events.items) (given_are : given ≡ tables)
    (are : AreTablesOf declared objects tables) (audits : Audits given events outcome) where
  tables_are : AreTablesOf declared history.objects.items tables
  tables_are = subst (λ (os : List ObjectLine). AreTablesOf declared os tables) objects_are are

  audits_are : Audits tables history.events.items outcome
  audits_are = subst (λ (es : List Event). Audits tables es outcome) events_are (subst (λ (ts : List Table). Audits ts events outcome) given_are audits)

  -- what the outcome says answers it
  pub says : (v : Verdict) (text : List ℕ) → IsSaid outcome v text → AuditsRead history declared v text
  says Yes text (a, is, same) = (a, subst (λ (r : Result Audit AuditFault). IsAuditOf history declared r text) is (record { tables = tables; are = tables_are; audits = audits_are; is = same }))
  says No text (fault, is, some, same) = (fault, some, subst (λ (r : Result Audit AuditFault). IsAuditOf history declared r text) is (record { tables = tables; are = tables_are; audits = audits_are; is = same }))

-- what was put out is what the outcome says
pub said_yes : (outcome : Result Audit AuditFault) (a : Audit) (lines : List ℕ) → outcome ≡ Ok a → lines ≡ audit_text outcome → (v : Verdict) (text : List ℕ) → IsThis Yes lines v text → IsSaid outcome v text
said_yes outcome a lines is lines_are Yes text this = (a, is, this.1 ∙ lines_are)
said_yes outcome a lines is lines_are No text this = absurd (let clash = this.0 in cc)

pub said_no : (outcome : Result Audit AuditFault) (fault : AuditFault) (lines : List ℕ) → outcome ≡ Err fault → fault ≢ NoMemory → lines ≡ audit_text outcome
    → (v : Verdict) (text : List ℕ) → IsThis No lines v text → IsSaid outcome v text
said_no outcome fault lines is some lines_are Yes text this = absurd (let clash = this.0 in cc)
said_no outcome fault lines is some lines_are No text this = (fault, is, some, this.1 ∙ lines_are)
