-- The text of what workers did, part by part.
use Rattle.std.proofs.Common.{◌≡◌, ℕ, List, [], ◌++◌, Option, Result, Ok, Err, OnOk}
use Rattle.std.proofs.lemmas.Result.{err_from_is_err_and}
use Rattle.std.specs.Result.{IsErrAnd}
use Rattle.outputs.specs.Out.{Puts, PutsJoin, PutsStop}
use Rattle.outputs.specs.declared.out.OutFault.{OutFault}
use Rattle.outputs.proofs.Turns.{Puts-append, Puts-exit}
use Rattle.store_laws.specs.Stored.{Stored}
use Rattle.store_text.specs.declared.line.ObjectLine.{ObjectLine}
use Rattle.history_text.specs.Canonical.{canonical_text}
use Rattle.history_audit.specs.Text.{audit_text}
use Rattle.history_judge.specs.declared.outcome.Audit.{Audit}
use Rattle.history_judge.specs.declared.outcome.AuditFault.{AuditFault}
use Rattle.worker_turns.specs.declared.outcome.Report.{Report}
use Rattle.script_run.proofs.KeptLines.{none_kept}
use Rattle.work_text.specs.Lines.{kept_text, reports_text}
use Rattle.work_text.specs.Text.{PutsKept, PutsWork}

-- at an error there is nothing to say
at_error : (P : Type 0) (e : OutFault) (result : Result (Unit {0}) OutFault) → IsErrAnd result (λ d. d ≡ e) → OnOk result P
at_error P e result exit = let (d, returned, same) = err_from_is_err_and result exit in rw returned tt

-- what holds anyway
at_any : (P : Type 0) (result : Result (Unit {0}) OutFault) → P → OnOk result P
at_any P (Ok done) p = p
at_any P (Err e) p = tt

module _ (s : Stored) (lines : List ObjectLine) (audit : Result Audit AuditFault) (reports : List Report) (joined : PutsJoin) (stopped : PutsStop) where
  -- the output stopped in the history
  pub history_stopped : {a b : Option (List ℕ)} {f : Option OutFault} {e : OutFault} {result : Result (Unit {0}) OutFault}
      → Puts a b f (canonical_text lines s.history) (Err e) → IsErrAnd result (λ d. d ≡ e) → PutsWork s lines audit reports a b f result
  history_stopped {result = result} history exit = record {
    kept = [];
    are_kept = none_kept s;
    all = at_error _ _ result exit;
    puts = Puts-exit stopped (kept_text [] ++ (audit_text audit ++ reports_text reports)) history exit;
  }

  -- in the kept states
  pub kept_stopped : {a b c : Option (List ℕ)} {f g : Option OutFault} {e : OutFault} {result : Result (Unit {0}) OutFault}
      → Puts a b f (canonical_text lines s.history) (Ok tt) → PutsKept s b c g (Err e) → IsErrAnd result (λ d. d ≡ e) → PutsWork s lines audit reports a c g result
  kept_stopped {result = result} history its exit = record {
    kept = its.kept;
    are_kept = its.are_kept;
    all = at_error _ _ result exit;
    puts = Puts-append joined history (Puts-exit stopped (audit_text audit ++ reports_text reports) its.puts exit);
  }

  -- in the audit
  pub audit_stopped : {a b c d : Option (List ℕ)} {f g h : Option OutFault} {e : OutFault} {result : Result (Unit {0}) OutFault}
      → Puts a b f (canonical_text lines s.history) (Ok tt) → PutsKept s b c g (Ok tt) → Puts c d h (audit_text audit) (Err e) → IsErrAnd result (λ x. x ≡ e)
      → PutsWork s lines audit reports a d h result
  audit_stopped {result = result} history its said exit = record {
    kept = its.kept;
    are_kept = its.are_kept;
    all = at_error _ _ result exit;
    puts = Puts-append joined history (Puts-append joined its.puts (Puts-exit stopped (reports_text reports) said exit));
  }

  -- it came to the jobs
  pub jobs_written : {a b c d i : Option (List ℕ)} {f g h j : Option OutFault} {result : Result (Unit {0}) OutFault}
      → Puts a b f (canonical_text lines s.history) (Ok tt) → PutsKept s b c g (Ok tt) → Puts c d h (audit_text audit) (Ok tt) → Puts d i j (reports_text reports) result
      → PutsWork s lines audit reports a i j result
  jobs_written {result = result} history its said jobs = record {
    kept = its.kept;
    are_kept = its.are_kept;
    all = at_any _ result its.all;
    puts = Puts-append joined history (Puts-append joined its.puts (Puts-append joined said jobs));
  }
