-- An audit in an order says yes exactly where the order may be asked for and is legal.
use Rattle.std.proofs.Common.{◌≡◌, ◌↔◌, ℕ, List, Result, Ok, Err, IsOk, refl, sym, ◌∙◌}
use Rattle.std.proofs.lemmas.Bool.{false≢true}
use Rattle.type_table.specs.Table.{Table}
use Rattle.type_table.specs.Laws.{RunsAlong}
use Rattle.object_trait.specs.declared.event.Event.{Event}
use Rattle.serial_order.specs.History.{IsHistory}
use Rattle.history_judge.specs.Audit.{AreLegal}
use Rattle.history_audit.specs.InOrder.{AuditsInOrder, HasOrderFault, InOrderDecides, KeepsPrecedes, LegalOrdersPass, PassesInOrder}
use Rattle.history_judge.specs.declared.outcome.Audit.{Audit}
use Rattle.history_judge.specs.declared.outcome.AuditFault.TheVariants.{BadEvent, IllegalOp, NoMemory}
use Rattle.history_audit.specs.declared.in_order_fault.InOrderFault.{InOrderFault}
use Rattle.history_audit.specs.declared.in_order_fault.InOrderFault.TheVariants as no
use Rattle.history_audit.specs.declared.in_order_fault.OrderFault.{OrderFault}
use Rattle.history_audit.specs.declared.in_order_fault.OrderFault.TheVariants as order
use Rattle.history_audit.proofs.Serials.{leads-legal, serial-each, never-bad}

-- an order that keeps what precedes has no fault
no-fault : (H : List Event) (ts : List ℕ) (fault : OrderFault) → KeepsPrecedes H ts → HasOrderFault H ts fault → ⊥
no-fault H ts (order.NotCommitted t) kept wrong = false≢true (sym wrong.not_committed ∙ kept.are.each wrong.place t wrong.there)
no-fault H ts (order.Twice t) kept wrong = false≢true (sym (kept.are.once wrong.place t wrong.there) ∙ wrong.again)
no-fault H ts (order.Missing t) kept wrong = false≢true (sym wrong.missing.absent ∙ kept.all t wrong.missing.one)
no-fault H ts (order.Precedes t u) kept wrong = false≢true (sym wrong.after ∙ kept.keeps wrong.place t u wrong.there wrong.precedes)

passes : RunsAlong → (tables : List Table) (H : List Event) (ts : List ℕ) (outcome : Result Audit InOrderFault) → IsHistory tables H → KeepsPrecedes H ts → AreLegal tables H ts
    → AuditsInOrder tables H ts outcome → PassesInOrder outcome
passes along tables H ts (Ok a) history kept legal said = tt
passes along tables H ts (Err (no.Order fault)) history kept legal said = no-fault H ts fault kept said.1
passes along tables H ts (Err (no.Audit (BadEvent at))) history kept legal said = never-bad tables H at history said
passes along tables H ts (Err (no.Audit (IllegalOp i x j))) history kept legal said = serial-each along tables H ts i x j legal said.2.illegal
passes along tables H ts (Err (no.Audit NoMemory)) history kept legal said = tt

pub legal_orders_pass : RunsAlong → LegalOrdersPass
legal_orders_pass along = λ tables H ts outcome history kept legal said. passes along tables H ts outcome history kept legal said

decides : (tables : List Table) (H : List Event) (ts : List ℕ) (outcome : Result Audit InOrderFault) → (IsHistory tables H → KeepsPrecedes H ts → AreLegal tables H ts → PassesInOrder outcome)
    → AuditsInOrder tables H ts outcome → (outcome ≡ Err (no.Audit NoMemory) → ⊥) → IsOk outcome ↔ (IsHistory tables H × KeepsPrecedes H ts × AreLegal tables H ts)
decides tables H ts (Ok a) pass said memory = (λ ok. (said.0, said.1, leads-legal tables H ts a.finals.items said.3), λ known. refl)
decides tables H ts (Err (no.Order fault)) pass said memory = (λ ok. absurd (false≢true ok), λ known. absurd (pass known.0 known.1 known.2))
decides tables H ts (Err (no.Audit (BadEvent at))) pass said memory = (λ ok. absurd (false≢true ok), λ known. absurd (pass known.0 known.1 known.2))
decides tables H ts (Err (no.Audit (IllegalOp i x j))) pass said memory = (λ ok. absurd (false≢true ok), λ known. absurd (pass known.0 known.1 known.2))
decides tables H ts (Err (no.Audit NoMemory)) pass said memory = absurd (memory refl)

pub in_order_decides : RunsAlong → InOrderDecides
in_order_decides along = λ tables H ts outcome said memory. decides tables H ts outcome (λ history kept legal. passes along tables H ts outcome history kept legal said) said memory
