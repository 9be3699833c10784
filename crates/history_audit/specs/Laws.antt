-- Statements of laws of the audit.
use Rattle.std.specs.Prelude.{◌≡◌, ◌↔◌, List, map, Result, Ok, Err, IsOk}
use Rattle.type_table.specs.Table.{Table}
use Rattle.object_trait.specs.Object.{Object}
use Rattle.object_trait.specs.declared.event.Event.{Event}
use Rattle.serial_order.specs.History.{IsHistory}
use Rattle.serial_order.specs.Machine.{IsRun, AreCovered}
use Rattle.serial_order.specs.Serial.{IsSerial}
use Rattle.history_judge.specs.Audit.{Audits, AreSerial}
use Rattle.history_audit.specs.Text.{audit_text}
use Rattle.history_judge.specs.declared.outcome.Audit.{Audit}
use Rattle.history_judge.specs.declared.outcome.AuditFault.{AuditFault}
use Rattle.history_judge.specs.declared.outcome.AuditFault.TheVariants.{NoMemory}

-- the tables of objects
abbrev pub tables_of : List Object → List Table
tables_of objects = map (λ o. o.table) objects

-- what has a yes is serially legal
abbrev pub YesIsSerial : Type 0
YesIsSerial = (objects : List Object) (H : List Event) (a : Audit) → Audits (tables_of objects) H (Ok a) → IsSerial objects H

-- a yes, or memory was refused
abbrev pub Passes : Result Audit AuditFault → Type 0
Passes (Ok a) = Unit {0}
Passes (Err NoMemory) = Unit {0}
Passes (Err _) = ⊥

-- a history that is serially legal passes
abbrev pub SerialHistoriesPass : Type 0
SerialHistoriesPass =
    (objects : List Object) (H : List Event) (outcome : Result Audit AuditFault) → IsHistory (tables_of objects) H → IsSerial objects H
    → Audits (tables_of objects) H outcome → Passes outcome

-- so does each run of the machine over objects that are covered for their kinds
abbrev pub RunsPass : Type 0
RunsPass =
    (objects : List Object) (H : List Event) (outcome : Result Audit AuditFault) → AreCovered objects → IsRun objects H
    → Audits (tables_of objects) H outcome → Passes outcome

-- where memory wasn't refused, there is a yes exactly for a history that is serially legal
abbrev pub AuditDecides : Type 0
AuditDecides =
    (tables : List Table) (H : List Event) (outcome : Result Audit AuditFault) → Audits tables H outcome → (outcome ≡ Err NoMemory → ⊥)
    → IsOk outcome ↔ (IsHistory tables H × AreSerial tables H)

-- two outcomes say the same: the same order and serial states, or the same fault
abbrev pub SaysAlike : Result Audit AuditFault → Result Audit AuditFault → Type 0
SaysAlike (Ok a) (Ok b) = (a.order.items ≡ b.order.items) × (a.finals.items ≡ b.finals.items)
SaysAlike (Err f) (Err g) = f ≡ g
SaysAlike one other = ⊥

-- two audits of the same events over the same tables say the same, where memory was refused to neither
abbrev pub AuditsAgree : Type 0
AuditsAgree =
    (tables : List Table) (H : List Event) (one other : Result Audit AuditFault) → Audits tables H one → Audits tables H other
    → (one ≡ Err NoMemory → ⊥) → (other ≡ Err NoMemory → ⊥) → SaysAlike one other

-- and their lines are the same
abbrev pub AlikeIsWritten : Type 0
AlikeIsWritten = (one other : Result Audit AuditFault) → SaysAlike one other → audit_text one ≡ audit_text other
