-- The numbers and counts of jobs that were read.
use Rattle.std.proofs.Common.{ℕ, ◌≤◌, ◌==◌, Bool, true, false, List, [], ◌∷◌, length, cond, refl, ap, length-append, arith}
use Rattle.std.proofs.lemmas.List.{length-map}
use Rattle.std.specs.Prelude.{Vec}
use Rattle.std.specs.declared.alloc.Global.{Global}
use Rattle.store_text.specs.Parts.{AreFit}
use Rattle.store_text.specs.declared.parts.Parts.{Parts}
use Rattle.jobs_text.specs.JobLines.{jobs}
use Rattle.jobs_text.specs.Jobs.{AreJobsOf, Call, AreJobsFit, calls_before_job, job_at, jobs_of}
use Rattle.jobs_text.specs.declared.job_line.JobLine.{JobLine}
use Rattle.jobs_text.specs.declared.job_line.JobLine.TheVariants as line
use Rattle.jobs_text.specs.declared.jobs_file.Job.{Job}

-- a line opens one job at most
one_at_most : (is : Bool) (calls : List Call) → length (cond is (calls ∷ []) []) ≤ 1
one_at_most true calls = omega arith
one_at_most false calls = omega arith

few_at : (w : ℕ) (l : JobLine) (behind : List JobLine) → length (job_at w l behind) ≤ 1
few_at w (line.Job of) behind = one_at_most (of == w) (calls_before_job behind)
few_at w (line.Do x call) behind = omega arith

-- so a worker has no more jobs than there are lines
few_jobs : (w : ℕ) (lines : List JobLine) → length (jobs_of w lines) ≤ length lines
few_jobs w [] = omega arith
few_jobs w (l ∷ lines) = omega (arith, length-append (job_at w l lines) (jobs_of w lines), few_at w l lines, few_jobs w lines)

-- they are those of their parts
pub is_fit : (workers : ℕ) (parts : Parts (Vec JobLine Global)) (lists : Vec (Vec Job Global) Global) → AreFit (jobs workers) (λ lines. lines.items) parts
    → AreJobsOf workers parts.entries.items lists.items → AreJobsFit (record { size = parts.size; max = parts.max; objects = parts.objects; jobs = lists })
is_fit workers parts lists fit are =
    let limit = fit.max refl in
    record {
      size = fit.size;
      low = limit.0;
      high = limit.1;
      some_object = fit.some_object;
      objects_fit = fit.objects;
      jobs_fit = λ w list there.
          let same = ap (λ (ls : List (List Call)). length ls) (are.each w list there) in
          omega (arith, same, length-map list.items (λ (job : Job). job.calls.items), few_jobs w parts.entries.items, fit.entries);
      files_fit = fit.files;
      named = fit.named;
    }
