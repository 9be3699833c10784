-- The lines after the history are comments.
use Rattle.std.proofs.Common.{ℕ, List, [], ◌∷◌, ◌++◌, Result, Ok, Err, refl, arith}
use Rattle.std.specs.Prelude.{codes}
use Rattle.std.specs.Fmt.{decimal}
use Rattle.line_text.specs.Spelling.{spaced}
use Rattle.line_text.proofs.CommentLines.{AreComments, IsText, both_comments, each_comments, line_comment, no_comments, number_text, placed_comments}
use Rattle.history_audit.specs.Text.{audit_text, committed_line, serial_line}
use Rattle.history_judge.specs.declared.outcome.Audit.{Audit}
use Rattle.history_judge.specs.declared.outcome.AuditFault.{AuditFault}
use Rattle.history_judge.specs.declared.outcome.AuditFault.TheVariants as fault
use Rattle.script_run.specs.Lines.{refusal_number}
use Rattle.script_run.proofs.LongNumbers.{long_number_text}
use Rattle.script_run.proofs.HistoryLines.{one_digit, refusal_text}
use Rattle.worker_turns.specs.declared.outcome.Outcome.{Outcome}
use Rattle.worker_turns.specs.declared.outcome.Outcome.TheVariants.{Committed, GaveUp, Refused, NotRun}
use Rattle.worker_turns.specs.declared.outcome.Report.{Report}
use Rattle.work_text.specs.Lines.{kept_line, kept_text, job_words, outcome_words, report_text, reports_text}
use Rattle.work_text.specs.TextHistory.{IsShortWork, IsShortNumber, IsShortAudit, IsShortOutcome, IsShortReport, FitsWord}

-- ---- kept states

kept_comment : (x state : ℕ) → IsShortNumber x → FitsWord state → AreComments (spaced (kept_line (x, state)) ++ 10 ∷ [])
kept_comment x state place short =
    line_comment (codes "kept" ∷ decimal x ∷ decimal state ∷ []) (record { bytes = refl; short = omega arith }, (number_text x place, (long_number_text state short, tt))) (omega arith)

-- ---- the audit

commit_comment : (t : ℕ) → IsShortNumber t → AreComments (committed_line t)
commit_comment t short = line_comment (codes "commit" ∷ decimal t ∷ []) (record { bytes = refl; short = omega arith }, (number_text t short, tt)) (omega arith)

serial_comment : (x state : ℕ) → IsShortNumber x → FitsWord state → AreComments (serial_line (x, state))
serial_comment x state place short =
    line_comment (codes "serial" ∷ decimal x ∷ decimal state ∷ []) (record { bytes = refl; short = omega arith }, (number_text x place, (long_number_text state short, tt))) (omega arith)

audit : IsText (codes "audit")
audit = record { bytes = refl; short = omega arith }

pub audit_comments : (said : Result Audit AuditFault) → IsShortAudit said → AreComments (audit_text said)
audit_comments (Ok a) short =
    both_comments _ _ (line_comment (codes "audit" ∷ codes "yes" ∷ []) (audit, (record { bytes = refl; short = omega arith }, tt)) (omega arith))
    (both_comments _ _ (each_comments IsShortNumber committed_line commit_comment a.order.items short.order) (placed_comments FitsWord serial_line serial_comment 0 a.finals.items (omega (arith, short.objects)) short.finals))
audit_comments (Err (fault.BadEvent at)) short =
    line_comment (codes "audit" ∷ codes "no" ∷ codes "BadEvent" ∷ decimal at ∷ [])
    (audit, (record { bytes = refl; short = omega arith }, (record { bytes = refl; short = omega arith }, (number_text at short, tt)))) (omega arith)
audit_comments (Err (fault.IllegalOp i x j)) short =
    line_comment (codes "audit" ∷ codes "no" ∷ codes "IllegalOp" ∷ decimal i ∷ decimal x ∷ decimal j ∷ [])
    (audit, (record { bytes = refl; short = omega arith }, (record { bytes = refl; short = omega arith }, (number_text i short.0, (number_text x short.1, (number_text j short.2, tt)))))) (omega arith)
audit_comments (Err fault.NoMemory) short = no_comments

-- ---- jobs

job : IsText (codes "job")
job = record { bytes = refl; short = omega arith }

job_comment : (w i : ℕ) (o : Outcome) → IsShortNumber w → IsShortNumber i → IsShortOutcome o → AreComments (spaced (job_words w (i, o)) ++ 10 ∷ [])
job_comment w i (Committed t) worker place short =
    line_comment (codes "job" ∷ decimal w ∷ decimal i ∷ outcome_words (Committed t))
    (job, (number_text w worker, (number_text i place, (record { bytes = refl; short = omega arith }, (number_text t short, tt))))) (omega arith)
job_comment w i GaveUp worker place short =
    line_comment (codes "job" ∷ decimal w ∷ decimal i ∷ outcome_words GaveUp) (job, (number_text w worker, (number_text i place, (record { bytes = refl; short = omega arith }, tt)))) (omega arith)
job_comment w i (Refused r) worker place short =
    line_comment (codes "job" ∷ decimal w ∷ decimal i ∷ outcome_words (Refused r))
    (job, (number_text w worker, (number_text i place, (record { bytes = refl; short = omega arith }, (number_text (refusal_number r) (one_digit r), (refusal_text r, tt)))))) (omega arith)
job_comment w i NotRun worker place short =
    line_comment (codes "job" ∷ decimal w ∷ decimal i ∷ outcome_words NotRun) (job, (number_text w worker, (number_text i place, (record { bytes = refl; short = omega arith }, tt)))) (omega arith)

report_comments : (w : ℕ) (r : Report) → IsShortNumber w → IsShortReport r → AreComments (report_text (w, r))
report_comments w r worker short =
    placed_comments IsShortOutcome (λ p. spaced (job_words w p) ++ 10 ∷ []) (λ i o place. job_comment w i o worker place) 0 r.outcomes.items (omega (arith, short.jobs)) short.outcomes

-- ---- all of them

pub comments_follow : (kept : List ℕ) (said : Result Audit AuditFault) (reports : List Report) → IsShortWork kept said reports
    → AreComments (kept_text kept ++ (audit_text said ++ reports_text reports))
comments_follow kept said reports short =
    both_comments (kept_text kept) (audit_text said ++ reports_text reports)
    (placed_comments FitsWord (λ p. spaced (kept_line p) ++ 10 ∷ []) kept_comment 0 kept (omega (arith, short.objects)) short.states)
    (both_comments (audit_text said) (reports_text reports) (audit_comments said short.said)
    (placed_comments IsShortReport report_text report_comments 0 reports (omega (arith, short.workers)) short.jobs))
