-- Jobs and their texts.
use Rattle.std.specs.Prelude.{◌≡◌, ℕ, List, length, Ok, Err}
use Rattle.line_text.specs.declared.fault.TextFault.{TextFault}
use Rattle.store_text.specs.Body.{store_outcome}
use Rattle.store_text.specs.declared.line.Line.{Line}
use Rattle.jobs_text.specs.JobLines.{jobs}
use Rattle.jobs_text.specs.Jobs.{IsJobsOf, AreJobsFit}
use Rattle.jobs_text.specs.declared.job_line.JobLine.{JobLine}
use Rattle.jobs_text.specs.declared.jobs_file.JobsFile.{JobsFile}

-- the jobs of this many workers that a text describes
pub record DescribesJobs (workers : ℕ) (text : List ℕ) (file : JobsFile) : Type 0 where
  pub lines : List (Line JobLine)
  pub accepted : store_outcome (jobs workers) text ≡ Ok lines
  pub described : IsJobsOf workers lines file

-- for this many workers the text has a fault
abbrev pub IsFaultyJobs : ℕ → List ℕ → Type 0
IsFaultyJobs workers text = (f : TextFault) × (store_outcome (jobs workers) text ≡ Err f)

-- whatever the text was: there is a list of jobs for each worker, and the numbers and counts are in their ranges
pub record AreJobsFor (workers : ℕ) (file : JobsFile) : Type 0 where
  pub lists : length file.jobs.items ≡ workers
  pub fit : AreJobsFit file
