-- The audit of a store's history is a yes, or memory was refused.
use Rattle.std.proofs.Common.{◌≡◌, ◌∷◌, [], List, map, Result, Ok, Err, ap, refl}
use Rattle.std.specs.declared.sync.Arc.{Arc}
use Rattle.type_table.specs.Table.{Table}
use Rattle.table_checker.specs.Checked.{Checked}
use Rattle.object_trait.specs.Object.{Object, object_of}
use Rattle.store_laws.specs.Stored.{Stored}
use Rattle.history_judge.specs.Audit.{Audits}
use Rattle.history_audit.specs.Laws.{Passes}
use Rattle.history_judge.specs.declared.outcome.Audit.{Audit}
use Rattle.history_judge.specs.declared.outcome.AuditFault.{AuditFault}
use Rattle.history_judge.specs.declared.outcome.AuditFault.TheVariants.{BadEvent, IllegalOp, NoMemory}
use Rattle.object_types.specs.Types.{value_of}
use Rattle.store_commands.specs.StoreAudit.{HasSerialRun, IsPassed, table_of_checked, tables}

-- the tables of objects are those of their types
pub tables_of_objects : (types : List Checked) → map (λ (o : Object). o.table) (map object_of types) ≡ map (λ (c : Checked). c.file.table) types
tables_of_objects [] = refl
tables_of_objects (c ∷ types) = ap (λ (ts : List Table). c.file.table ∷ ts) (tables_of_objects types)

-- and those behind pointers
pub tables_of_types : {A : Type 0} (types : List (Arc Checked A)) → map (λ (c : Checked). c.file.table) (map value_of types) ≡ map table_of_checked types
tables_of_types [] = refl
tables_of_types (c ∷ types) = ap (λ (ts : List Table). table_of_checked c ∷ ts) (tables_of_types types)

-- the audit of a serial history passes
pub passed : (s : Stored) (outcome : Result Audit AuditFault) → Audits (tables s) s.history outcome → Passes outcome → HasSerialRun s → IsPassed s outcome
passed s (Ok a) audits passes history = (audits, history)
passed s (Err NoMemory) audits passes history = refl
passed s (Err (BadEvent at)) audits passes history = absurd passes
passed s (Err (IllegalOp i x j)) audits passes history = absurd passes
