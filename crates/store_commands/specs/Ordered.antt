-- What `audit --order T,T,.. HISTORY TYPE...` answers.
use Rattle.std.specs.Prelude.{◌⊎◌, ℕ, List, [], IfSome, Result, Ok, Err}
use Rattle.type_table.specs.Table.{Table}
use Rattle.declared_types.specs.declared.declared_type.Declaration.{Declaration}
use Rattle.history_text.specs.declared.history_file.HistoryFile.{HistoryFile}
use Rattle.history_audit.specs.InOrder.{AuditsInOrder}
use Rattle.history_audit.specs.declared.in_order_fault.InOrderFault.{InOrderFault}
use Rattle.history_audit.specs.declared.in_order_fault.InOrderFault.TheVariants as no
use Rattle.history_audit.specs.declared.in_order_fault.OrderFault.{OrderFault}
use Rattle.history_judge.specs.declared.outcome.Audit.{Audit}
use Rattle.history_judge.specs.declared.outcome.AuditFault.{AuditFault}
use Rattle.command_files.specs.Answers.{Answers}
use Rattle.store_files.specs.Histories.{IsFaultyHistory}
use Rattle.object_types.specs.Types.{IsUnplaced}
use Rattle.store_files.specs.Types.{Held, AreTablesOf, IsFirstFaultyDeclaration}
use Rattle.store_commands.specs.Audited.{AreAuditFiles, IsSaid}

-- the audit of a history in this order with the tables of its objects has this outcome
pub record HasOutcome (history : HistoryFile) (order : List ℕ) (declared : List Declaration) (outcome : Result Audit InOrderFault) : Type 0 where
  pub tables : List Table
  pub are : AreTablesOf declared history.objects.items tables
  pub audits : AuditsInOrder tables history.events.items order outcome

-- what an audit says, as an audit in an order says it
abbrev pub in_order : Result Audit AuditFault → Result Audit InOrderFault
in_order (Ok audit) = Ok audit
in_order (Err fault) = Err (no.Audit fault)

-- yes with the order and the states, or no with the first fault
abbrev pub AuditsOrderedRead : HistoryFile → List ℕ → List Declaration → Answers
AuditsOrderedRead history order declared verdict text =
    (outcome : Result Audit AuditFault) × HasOutcome history order declared (in_order outcome) × IsSaid outcome verdict text

-- the history's transactions may not be asked for in this order
abbrev pub IsOrderAmiss : HistoryFile → List ℕ → List Declaration → Type 0
IsOrderAmiss history order declared = (fault : OrderFault) × HasOutcome history order declared (Err (no.Order fault))

-- the answer to what was read
abbrev pub AuditsOrdered : Held → List ℕ → List ℕ → List (List ℕ) → Answers
AuditsOrdered holds order path words verdict text =
    (history : HistoryFile) × (declared : List Declaration) × AreAuditFiles holds path [] words history [] declared × AuditsOrderedRead history order declared verdict text

-- the text of the history has a fault, or the first of the types that has one; or an object names no type, or the order is amiss
abbrev pub HasOrderedFault : Held → List ℕ → List ℕ → List (List ℕ) → Type 0
HasOrderedFault holds order path words =
    IfSome (holds path) IsFaultyHistory
    ⊎ (IsFirstFaultyDeclaration holds words
    ⊎ ((history : HistoryFile) × (declared : List Declaration) × AreAuditFiles holds path [] words history [] declared
    × (IsUnplaced declared history.objects.items ⊎ IsOrderAmiss history order declared)))
