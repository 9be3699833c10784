-- The answer to a history that was read, and is audited in an order.
use Rattle.std.proofs.Common.{◌≡◌, ℕ, List, [], Result, Err, IfSome, refl, subst}
use Rattle.std.proofs.lemmas.Option.{none-some}
use Rattle.type_table.specs.Table.{Table}
use Rattle.declared_types.specs.declared.declared_type.Declaration.{Declaration}
use Rattle.object_trait.specs.declared.event.Event.{Event}
use Rattle.store_text.specs.declared.line.ObjectLine.{ObjectLine}
use Rattle.history_text.specs.declared.history_file.HistoryFile.{HistoryFile}
use Rattle.history_audit.specs.InOrder.{AuditsInOrder}
use Rattle.history_audit.specs.declared.in_order_fault.InOrderFault.{InOrderFault}
use Rattle.history_audit.specs.declared.in_order_fault.InOrderFault.TheVariants as no
use Rattle.history_audit.specs.declared.in_order_fault.OrderFault.{OrderFault}
use Rattle.history_judge.specs.declared.outcome.Audit.{Audit}
use Rattle.history_judge.specs.declared.outcome.AuditFault.{AuditFault}
use Rattle.command_files.specs.declared.status.Verdict.{Verdict}
use Rattle.store_files.specs.Histories.{DescribesHistory}
use Rattle.store_files.specs.Types.{AreDeclaredAt, AreTablesOf, Held}
use Rattle.store_commands.specs.Audited.{AreAuditFiles, IsSaid}
use Rattle.store_commands.specs.Ordered.{AuditsOrderedRead, HasOutcome, IsOrderAmiss, in_order}
use Rattle.store_commands.proofs.Kept.{files_kept}

-- what a source tells stays while the types are read
pub one_read : (holds later : Held) → ((other : List ℕ) → later other ≡ holds other) → (path : List ℕ) (words : List (List ℕ)) (history : HistoryFile) (declared : List Declaration)
    → IfSome (holds path) (λ text. DescribesHistory text history) → AreDeclaredAt later words declared → AreAuditFiles holds path [] words history [] declared
one_read holds later kept path words history declared described types = record {
  history_held = described;
  later_held = record { as_many = refl; each = λ k p value at there. absurd (none-some value there) };
  types_held = files_kept holds later kept words declared types;
}

module _ (history : HistoryFile) (order : List ℕ) (declared : List Declaration) (tables given : List Table) (objects : List ObjectLine) (events : List Event) (outcome : Result Audit InOrderFault)
    (objects_are : objects ≡ history.objects.items) (events_are : events ≡ history.events.items) (given_are : given ≡ tables)
    (are : AreTablesOf declared objects tables) (audits : AuditsInOrder given events order outcome) where
  has_outcome : HasOutcome history order declared outcome
  has_outcome = record {
    tables = tables;
    are = subst (λ (os : List ObjectLine). AreTablesOf declared os tables) objects_are are;
    audits = subst (λ (es : List Event). AuditsInOrder tables es order outcome) events_are (subst (λ (ts : List Table). AuditsInOrder ts events order outcome) given_are audits);
  }

  -- what the audit says answers it
  pub ordered_says : (r : Result Audit AuditFault) → outcome ≡ in_order r → (v : Verdict) (text : List ℕ) → IsSaid r v text → AuditsOrderedRead history order declared v text
  ordered_says r is v text said = (r, subst (HasOutcome history order declared) is has_outcome, said)

  -- or the order is amiss
  pub ordered_amiss : (fault : OrderFault) × (outcome ≡ Err (no.Order fault)) → IsOrderAmiss history order declared
  ordered_amiss (fault, is) = (fault, subst (HasOutcome history order declared) is has_outcome)
