-- The jobs that the lines of a text describe.
use Rattle.std.specs.Prelude.{◌≡◌, ℕ, ◌<◌, ◌≤◌, ◌==◌, if◌then◌else◌, List, [], ◌∷◌, ◌++◌, length, map, slice_get, Some, IfSome, Vec}
use Rattle.type_table.specs.Limits.{most_events}
use Rattle.std.specs.declared.alloc.Global.{Global}
use Rattle.std.specs.List.{AllByRecursion}
use Rattle.std.specs.Option.{option_to_list}
use Rattle.store_text.specs.declared.line.Line.{Line}
use Rattle.store_text.specs.declared.line.ObjectLine.{ObjectLine}
use Rattle.store_text.specs.Named.{AreNamed}
use Rattle.store_text.specs.Said.{said_sizes, said_limits, said_objects, entries_of}
use Rattle.store_text.specs.Size.{may_have, IsSize}
use Rattle.jobs_text.specs.declared.job_line.JobLine.{JobLine}
use Rattle.jobs_text.specs.declared.job_line.JobLine.TheVariants as line
use Rattle.jobs_text.specs.declared.jobs_file.Job.{Job}
use Rattle.jobs_text.specs.declared.jobs_file.JobsFile.{JobsFile}

-- an object by its place, and the name of a call
abbrev pub Call : Type 0
Call = ℕ × List ℕ

-- the calls of the `do` lines before the next `job` line
abbrev pub calls_before_job : List JobLine → List Call
calls_before_job [] = []
calls_before_job (line.Job w ∷ lines) = []
calls_before_job (line.Do x call ∷ lines) = (x, call) ∷ calls_before_job lines

-- a job of one worker, as one of those of another
abbrev pub job_of_worker : ℕ → ℕ → List Call → List (List Call)
job_of_worker of w calls = if of == w then calls ∷ [] else []

-- the job of a worker that a line before others opens
abbrev pub job_at : ℕ → JobLine → List JobLine → List (List Call)
job_at w (line.Job of) behind = job_of_worker of w (calls_before_job behind)
job_at w (line.Do x call) behind = []

-- the jobs of a worker, each by its calls, in the order of their lines
abbrev pub jobs_of : ℕ → List JobLine → List (List Call)
jobs_of w [] = []
jobs_of w (line ∷ lines) = job_at w line lines ++ jobs_of w lines

-- the calls of each job of a list
abbrev pub calls_in : Vec Job Global → List (List Call)
calls_in list = map (λ (job : Job). job.calls.items) list.items

-- there is a list for each worker, with its jobs
pub record AreJobsOf (workers : ℕ) (lines : List JobLine) (lists : List (Vec Job Global)) : Type 0 where
  pub count : length lists ≡ workers
  pub each : (w : ℕ) (list : Vec Job Global) → slice_get lists w ≡ Some list → calls_in list ≡ jobs_of w lines

-- each worker's list is followed by these jobs
pub record AddJobs (old new : List (Vec Job Global)) (more : ℕ → List (List Call)) : Type 0 where
  pub count : length new ≡ length old
  pub each : (w : ℕ) (list : Vec Job Global) → slice_get new w ≡ Some list
      → (before : Vec Job Global) × (slice_get old w ≡ Some before) × (calls_in list ≡ calls_in before ++ more w)

-- the size and the limit are those of their lines, the objects are those of theirs in order, and so are the jobs of each worker
pub record IsJobsOf (workers : ℕ) (lines : List (Line JobLine)) (file : JobsFile) : Type 0 where
  pub size : said_sizes lines ≡ option_to_list file.size
  pub max : said_limits lines ≡ file.max ∷ []
  pub objects : file.objects.items ≡ said_objects lines
  pub jobs : AreJobsOf workers (entries_of lines) file.jobs.items

-- its numbers and counts are in their ranges
pub record AreJobsFit (file : JobsFile) : Type 0 where
  pub size : IfSome file.size IsSize
  pub low : 2 ≤ file.max
  pub high : file.max ≤ most_events
  pub some_object : 0 < length file.objects.items
  pub objects_fit : length file.objects.items ≤ may_have file.size
  pub files_fit : AllByRecursion (λ (o : ObjectLine). o.file < may_have file.size) file.objects.items
  pub named : AreNamed file.objects.items
  pub jobs_fit : (w : ℕ) (list : Vec Job Global) → slice_get file.jobs.items w ≡ Some list → length list.items ≤ most_events
