-- That the text of what workers did is read as its history: the lines after it are comments.
use Rattle.std.specs.Prelude.{◌≡◌, ℕ, ◌<◌, ◌^◌, List, length, Result, Ok, Err}
use Rattle.std.specs.List.{AllByRecursion}
use Rattle.object_trait.specs.declared.event.Event.{Event}
use Rattle.store_text.specs.Body.{store_outcome}
use Rattle.store_text.specs.declared.line.ObjectLine.{ObjectLine}
use Rattle.history_text.specs.Canonical.{AreInRange, canonical_lines}
use Rattle.history_text.specs.Events.{history_body}
use Rattle.history_judge.specs.declared.outcome.Audit.{Audit}
use Rattle.history_judge.specs.declared.outcome.AuditFault.{AuditFault}
use Rattle.history_judge.specs.declared.outcome.AuditFault.TheVariants.{BadEvent, IllegalOp, NoMemory}
use Rattle.worker_turns.specs.declared.outcome.Outcome.{Outcome}
use Rattle.worker_turns.specs.declared.outcome.Outcome.TheVariants.{Committed, GaveUp, Refused, NotRun}
use Rattle.worker_turns.specs.declared.outcome.Report.{Report}
use Rattle.work_text.specs.Text.{work_text}

-- ---- numbers of at most seven digits

abbrev pub IsShortNumber : ℕ → Type 0
IsShortNumber n = n < 10 ^ 7

-- and of 32 bits
abbrev pub FitsWord : ℕ → Type 0
FitsWord n = n < 2 ^ 32

abbrev pub IsShortOutcome : Outcome → Type 0
IsShortOutcome (Committed t) = IsShortNumber t
IsShortOutcome GaveUp = Unit {0}
IsShortOutcome (Refused r) = Unit {0}
IsShortOutcome NotRun = Unit {0}

pub record IsShortReport (r : Report) : Type 0 where
  pub jobs : IsShortNumber (length r.outcomes.items)
  pub outcomes : AllByRecursion IsShortOutcome r.outcomes.items

pub record IsShortYes (a : Audit) : Type 0 where
  pub order : AllByRecursion IsShortNumber a.order.items
  pub objects : IsShortNumber (length a.finals.items)
  pub finals : AllByRecursion FitsWord a.finals.items

abbrev pub IsShortAudit : Result Audit AuditFault → Type 0
IsShortAudit (Ok a) = IsShortYes a
IsShortAudit (Err (BadEvent at)) = IsShortNumber at
IsShortAudit (Err (IllegalOp i x j)) = IsShortNumber i × IsShortNumber x × IsShortNumber j
IsShortAudit (Err NoMemory) = Unit {0}

-- all numbers of the comments are, but for states, which have 32 bits
pub record IsShortWork (kept : List ℕ) (audit : Result Audit AuditFault) (reports : List Report) : Type 0 where
  pub objects : IsShortNumber (length kept)
  pub states : AllByRecursion FitsWord kept
  pub said : IsShortAudit audit
  pub workers : IsShortNumber (length reports)
  pub jobs : AllByRecursion IsShortReport reports

-- ---- the statement of a law

-- the text is read as its history alone is, which `canonical_is_read` of `history_text` says
abbrev pub WorkIsRead : Type 0
WorkIsRead =
    (objects : List ObjectLine) (H : List Event) (kept : List ℕ) (audit : Result Audit AuditFault) (reports : List Report) → AreInRange objects H → IsShortWork kept audit reports
    → store_outcome history_body (work_text objects H kept audit reports) ≡ Ok (canonical_lines objects H)
