-- Statements of laws of audits and of dynamic atomicity together.
use Rattle.std.specs.Prelude.{◌≡◌, ℕ, List, true, Result}
use Rattle.std.specs.List.{AllByRecursion}
use Rattle.object_trait.specs.Object.{Object}
use Rattle.object_trait.specs.declared.event.Event.{Event}
use Rattle.serial_order.specs.Machine.{IsRun, AreCovered}
use Rattle.serial_order.specs.Operations.{is_among}
use Rattle.dynamic_atomicity.specs.Dynamic.{Dated, dated}
use Rattle.history_audit.specs.InOrder.{AuditsInOrder, KeepsPrecedes, PassesInOrder, Precedes}
use Rattle.history_audit.specs.Laws.{tables_of}
use Rattle.history_audit.specs.declared.in_order_fault.InOrderFault.{InOrderFault}
use Rattle.history_judge.specs.declared.outcome.Audit.{Audit}

-- what had committed when an operation that survives was executed precedes its transaction
abbrev pub LivingPrecedes : Type 0
LivingPrecedes = (H : List Event) → AllByRecursion (λ (d : Dated). (t : ℕ) → is_among d.after t ≡ true → Precedes H t d.entry.by) (dated H)

-- in a run over covered objects each order that keeps what precedes has a yes, or memory was refused
abbrev pub KeptOrdersPass : Type 0
KeptOrdersPass =
    (objects : List Object) (H : List Event) (ts : List ℕ) (outcome : Result Audit InOrderFault) → AreCovered objects → IsRun objects H → KeepsPrecedes H ts
    → AuditsInOrder (tables_of objects) H ts outcome → PassesInOrder outcome
