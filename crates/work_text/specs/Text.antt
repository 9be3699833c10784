-- The text of what workers did at a store.
use Rattle.std.specs.Prelude.{◌≡◌, ℕ, List, ◌++◌, length, Option, Result, OnOk}
use Rattle.object_trait.specs.declared.event.Event.{Event}
use Rattle.outputs.specs.Out.{Puts}
use Rattle.outputs.specs.declared.out.OutFault.{OutFault}
use Rattle.store_laws.specs.Stored.{Stored}
use Rattle.store_text.specs.declared.line.ObjectLine.{ObjectLine}
use Rattle.history_text.specs.Canonical.{canonical_text}
use Rattle.history_audit.specs.Text.{audit_text}
use Rattle.history_judge.specs.declared.outcome.Audit.{Audit}
use Rattle.history_judge.specs.declared.outcome.AuditFault.{AuditFault}
use Rattle.script_run.specs.Runs.{AreKept}
use Rattle.worker_turns.specs.declared.outcome.Report.{Report}
use Rattle.work_text.specs.Lines.{kept_text, reports_text}

-- the canonical text of the history, and then the lines of the kept states, of the audit and of the jobs
abbrev pub work_text : List ObjectLine → List Event → List ℕ → Result Audit AuditFault → List Report → List ℕ
work_text lines H kept audit reports = canonical_text lines H ++ (kept_text kept ++ (audit_text audit ++ reports_text reports))

-- the lines of kept states are written: of all objects at `Ok`, else of those to which it came
pub record PutsKept (s : Stored) (before after : Option (List ℕ)) (fault : Option OutFault) (result : Result (Unit {0}) OutFault) : Type 0 where
  pub kept : List ℕ
  pub are_kept : AreKept s kept
  pub all : OnOk result (length kept ≡ length s.types)
  pub puts : Puts before after fault (kept_text kept) result

-- the text of what workers did at a store is written, with an audit and their reports. The kept states are those of the store: of all
-- objects at `Ok`, else of those to which it came
pub record PutsWork (s : Stored) (lines : List ObjectLine) (audit : Result Audit AuditFault) (reports : List Report) (before after : Option (List ℕ)) (fault : Option OutFault) (result : Result (Unit {0}) OutFault) : Type 0 where
  pub kept : List ℕ
  pub are_kept : AreKept s kept
  pub all : OnOk result (length kept ≡ length s.types)
  pub puts : Puts before after fault (work_text lines s.history kept audit reports) result
