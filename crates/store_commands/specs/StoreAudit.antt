-- The audit of a store's history, which says yes.
use Rattle.store_limits.specs.declared.limits.Limits.{Limits}
use Rattle.store_limits.specs.Standard.{standard_with}
use Rattle.store_text.specs.Size.{may_have}
use Rattle.std.specs.Prelude.{◌≡◌, ◌≤◌, ℕ, List, [], length, map, take, Option, Result, Ok, Err}
use Rattle.std.specs.declared.sync.Arc.{Arc}
use Rattle.std.specs.Io.KnownBytes.{Appends}
use Rattle.type_table.specs.Table.{Table}
use Rattle.table_checker.specs.Checked.{Checked}
use Rattle.serial_order.specs.Machine.{IsRun}
use Rattle.serial_order.specs.Serial.{IsSerial}
use Rattle.store_laws.specs.Stored.{Stored, objects}
use Rattle.history_judge.specs.Audit.{Audits}
use Rattle.history_audit.specs.Text.{audit_text}
use Rattle.history_judge.specs.declared.outcome.Audit.{Audit}
use Rattle.history_judge.specs.declared.outcome.AuditFault.{AuditFault}
use Rattle.history_judge.specs.declared.outcome.AuditFault.TheVariants.{NoMemory}
use Rattle.command_files.specs.declared.fault.Fault.{Fault}
use Rattle.command_files.specs.declared.fault.Fault.TheVariants as fault
use Rattle.command_files.specs.declared.status.Verdict.{Verdict}
use Rattle.command_files.specs.declared.status.Verdict.TheVariants.{Yes, No}
use Rattle.object_types.specs.Types.{value_of}

-- the table of a checked type
abbrev pub table_of_checked : {A : Type 0} → Arc Checked A → Table
table_of_checked c = (value_of c).file.table

-- the tables of a store's objects
abbrev pub tables : Stored → List Table
tables s = map (λ (c : Checked). c.file.table) s.types

-- the standard limits, but for the events and the objects of a text
abbrev pub text_limits : Option ℕ → ℕ → Limits
text_limits size max = record (standard_with max) { objects = may_have size }

-- a new store of these types, with these limits
abbrev pub new_store : List Checked → Limits → Stored
new_store types limits = record { types = types; history = []; limits = limits; forgotten = 0 }

-- the history of a store is a run of the machine, serial, and within its limit
pub record HasSerialRun (s : Stored) : Type 0 where
  pub run : IsRun (objects s) s.history
  pub serial : IsSerial (objects s) s.history
  pub room : length s.history ≤ s.limits.events

-- the audit of a store's history with the tables of its objects is a yes, and the history is a serial run; or memory was refused
abbrev pub IsPassed : Stored → Result Audit AuditFault → Type 0
IsPassed s (Ok audit) = Audits (tables s) s.history (Ok audit) × HasSerialRun s
IsPassed s (Err fault) = fault ≡ NoMemory

-- the lines of the audit of a store were written: of a yes at an answer, which is yes; of none where memory was refused for the audit; or
-- a beginning where the output failed
abbrev pub TellsAudit : Stored → Result Verdict Fault → Option (List ℕ) → Option (List ℕ) → Type 0
TellsAudit s (Ok Yes) old new = (audit : Audit) × IsPassed s (Ok audit) × Appends old new (audit_text (Ok audit))
TellsAudit s (Ok No) old new = ⊥
TellsAudit s (Err fault.NoMemory) old new = Appends old new []
TellsAudit s (Err fault.Output) old new = (outcome : Result Audit AuditFault) × (n : ℕ) × IsPassed s outcome × Appends old new (take n (audit_text outcome))
TellsAudit s (Err fault) old new = ⊥
