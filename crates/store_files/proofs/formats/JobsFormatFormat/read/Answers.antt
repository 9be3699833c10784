use Rattle.std.proofs.Common.{◌≢◌, ℕ, List, Result, Ok, Err, ⊎_elim}
use Rattle.std.specs.Prelude.{IfErr}
use Rattle.line_text.specs.declared.fault.TextFault.{TextFault}
use Rattle.line_text.specs.declared.fault.FaultKind.TheVariants.{NoMemory}
use Rattle.store_text.specs.Parts.{ReadsStoreText}
use Rattle.jobs_text.specs.JobLines.{jobs}
use Rattle.jobs_text.specs.Jobs.{IsJobsOf}
use Rattle.jobs_text.specs.declared.jobs_file.JobsFile.{JobsFile}
use Rattle.store_files.specs.Jobs.{IsFaultyJobs}
use Rattle.store_files.proofs.formats.JobsFormatFormat.read.Goals as goal

-- a fault that isn't of memory is the text's
refused : (workers : ℕ) (text : List ℕ) (result : Result JobsFile TextFault) → ReadsStoreText (jobs workers) (IsJobsOf workers) result text
    → IfErr result (λ fault. fault.kind ≢ NoMemory → IsFaultyJobs workers text)
refused workers text (Ok file) reads = tt
refused workers text (Err fault) reads = λ some. ⊎_elim (λ is. (fault, is)) (λ memory. absurd (some memory.0)) reads

pub returns-clause-refused : goal.returns-clause-refused
returns-clause-refused c = refused c.args.self.now.workers c.args.text.now c.read_jobs.result c.read_jobs.ensures.exact
