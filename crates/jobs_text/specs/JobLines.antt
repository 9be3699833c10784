-- The lines of the jobs.
use Rattle.std.specs.Prelude.{ℕ, Bool, true, false, nat_lt, List, if◌then◌else◌, Result, Ok, Err, codes}
use Rattle.line_text.specs.Shapes.{◌>>=◌, exactly, number_at, name_at, is_key}
use Rattle.line_text.specs.declared.fault.FaultKind.{FaultKind}
use Rattle.line_text.specs.declared.fault.FaultKind.TheVariants.{UnknownWord}
use Rattle.store_text.specs.Body.{Body}
use Rattle.jobs_text.specs.declared.job_line.JobLine.{JobLine}
use Rattle.jobs_text.specs.declared.job_line.JobLine.TheVariants.{Job, Do}

unfoldable pub job_of : List (List ℕ) → Result JobLine FaultKind
job_of words = do
  done ← exactly words 2
  w ← number_at words 1
  Ok (Job w)

unfoldable pub do_of : List (List ℕ) → Result JobLine FaultKind
do_of words = do
  done ← exactly words 3
  call ← name_at words 2
  x ← number_at words 1
  Ok (Do x call)

-- by the keyword
unfoldable pub job_line_of : List (List ℕ) → Result JobLine FaultKind
job_line_of words =
    if is_key words (codes "job") then job_of words
    else (if is_key words (codes "do") then do_of words
    else Err UnknownWord)

-- a worker is one of those that were handed in, and an object one of as many as the text may have
abbrev pub is_in_range : ℕ → ℕ → JobLine → Bool
is_in_range workers objects (Job w) = nat_lt w workers
is_in_range workers objects (Do x call) = nat_lt x objects

-- a call is one of the job before it
abbrev pub wants_job : JobLine → Bool
wants_job (Job w) = false
wants_job (Do x call) = true

-- jobs of this many workers: the text begins with a limit, and its first entry opens a job
abbrev pub jobs : ℕ → Body JobLine
jobs workers = record {
  has_max = true;
  entry_of = job_line_of;
  is_in_range = is_in_range workers;
  wants_another = wants_job;
}
