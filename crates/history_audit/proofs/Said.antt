-- What the audit's answers say.
use Rattle.std.proofs.Common.{◌≡◌, ◌↔◌, List, Result, Ok, Err, IsOk, refl}
use Rattle.std.proofs.lemmas.Bool.{false≢true}
use Rattle.type_table.specs.Table.{Table}
use Rattle.type_table.specs.Laws.{RunsAlong}
use Rattle.object_trait.specs.declared.event.Event.{Event}
use Rattle.serial_order.specs.History.{commits, IsHistory}
use Rattle.serial_order.specs.Laws.{RunIsHistory, Headline}
use Rattle.history_judge.specs.Audit.{Audits, AreSerial}
use Rattle.history_audit.specs.Laws.{tables_of, YesIsSerial, Passes, SerialHistoriesPass, RunsPass, AuditDecides}
use Rattle.history_judge.specs.declared.outcome.Audit.{Audit}
use Rattle.history_judge.specs.declared.outcome.AuditFault.{AuditFault}
use Rattle.history_judge.specs.declared.outcome.AuditFault.TheVariants.{BadEvent, IllegalOp, NoMemory}
use Rattle.history_audit.proofs.Serials.{leads-legal, of_tables, of_objects, serial-each, never-bad}

pub yes_is_serial : YesIsSerial
yes_is_serial = λ objects H a said. of_tables objects H (leads-legal (tables_of objects) H (commits H) a.finals.items said.1.leads)

-- over tables
passes : RunsAlong → (tables : List Table) (H : List Event) (outcome : Result Audit AuditFault) → IsHistory tables H → AreSerial tables H → Audits tables H outcome → Passes outcome
passes along tables H (Ok a) history serial said = tt
passes along tables H (Err (BadEvent at)) history serial said = never-bad tables H at history said
passes along tables H (Err (IllegalOp i x j)) history serial said = serial-each along tables H (commits H) i x j serial said.1.illegal
passes along tables H (Err NoMemory) history serial said = tt

pub serial_histories_pass : RunsAlong → SerialHistoriesPass
serial_histories_pass along = λ objects H outcome history serial said. passes along (tables_of objects) H outcome history (of_objects objects H serial) said

pub runs_pass : RunIsHistory → Headline → SerialHistoriesPass → RunsPass
runs_pass histories headline pass = λ objects H outcome covered run said.
    pass objects H outcome (histories objects H run) (headline objects H covered run).serially_legal said

-- a yes, where memory wasn't refused and what passes passes
decides : (tables : List Table) (H : List Event) (outcome : Result Audit AuditFault) → (IsHistory tables H → AreSerial tables H → Passes outcome) → Audits tables H outcome → (outcome ≡ Err NoMemory → ⊥)
    → IsOk outcome ↔ (IsHistory tables H × AreSerial tables H)
decides tables H (Ok a) pass said memory = (λ ok. (said.0, leads-legal tables H (commits H) a.finals.items said.1.leads), λ known. refl)
decides tables H (Err (BadEvent at)) pass said memory = (λ ok. absurd (false≢true ok), λ known. absurd (pass known.0 known.1))
decides tables H (Err (IllegalOp i x j)) pass said memory = (λ ok. absurd (false≢true ok), λ known. absurd (pass known.0 known.1))
decides tables H (Err NoMemory) pass said memory = absurd (memory refl)

pub audit_decides : RunsAlong → AuditDecides
audit_decides along = λ tables H outcome said memory. decides tables H outcome (λ history serial. passes along tables H outcome history serial said) said memory
