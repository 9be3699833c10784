-- Texts of jobs whose outcome was worked out by hand.
use Rattle.std.specs.Prelude.{◌≡◌, ℕ, List, [], ◌∷◌, ◌++◌, slice_set, None, Ok, Err, codes}
use Rattle.std.specs.List.{flat_map}
use Rattle.type_table.specs.declared.kind.Kind.TheVariants.{Undo}
use Rattle.line_text.specs.Outcome.{fault_on}
use Rattle.line_text.specs.declared.fault.FaultKind.{FaultKind}
use Rattle.store_text.specs.Body.{store_outcome}
use Rattle.store_text.specs.declared.line.Line.{Line}
use Rattle.store_text.specs.declared.line.Line.TheVariants.{Objects, Max, Object, Entry, End}
use Rattle.jobs_text.specs.JobLines.{jobs}
use Rattle.jobs_text.specs.declared.job_line.JobLine.{JobLine}
use Rattle.jobs_text.specs.declared.job_line.JobLine.TheVariants.{Job, Do}

-- jobs of two workers over one object, of which one has no calls
abbrev pub jobs_text : List (List ℕ)
jobs_text =
    codes "max 1000000"
    ∷ codes "object undo 0"
    ∷ codes "job 1"
    ∷ codes "do 0 inc:1"
    ∷ codes "do 255 dec:1"
    ∷ codes "job 0"
    ∷ codes "job 1"
    ∷ codes "do 0 dec:1"
    ∷ codes "end"
    ∷ []

-- what the lines of the jobs say
abbrev pub job_lines : List JobLine
job_lines = Job 1 ∷ Do 0 (codes "inc:1") ∷ Do 255 (codes "dec:1") ∷ Job 0 ∷ Job 1 ∷ Do 0 (codes "dec:1") ∷ []

-- what all its lines say
abbrev pub jobs_lines : List (Line JobLine)
jobs_lines =
    Max 1000000
    ∷ Object Undo 0 None
    ∷ Entry (Job 1)
    ∷ Entry (Do 0 (codes "inc:1"))
    ∷ Entry (Do 255 (codes "dec:1"))
    ∷ Entry (Job 0)
    ∷ Entry (Job 1)
    ∷ Entry (Do 0 (codes "dec:1"))
    ∷ End
    ∷ []

-- the bytes of lines, each ended by a LF
abbrev pub ended : List (List ℕ) → List ℕ
ended text = flat_map (λ l. l ++ 10 ∷ []) text

-- for two workers these lines are read as these
abbrev pub SaysJobs : List (List ℕ) → List (Line JobLine) → Type 0
SaysJobs text lines = store_outcome (jobs 2) (ended text) ≡ Ok lines

-- for two workers a text is refused at a line
abbrev pub RefusesJobs : List (List ℕ) → ℕ → FaultKind → Type 0
RefusesJobs text line kind = store_outcome (jobs 2) (ended text) ≡ Err (fault_on line kind)

-- the text with another line in place of the one at a place, counted from 0
abbrev pub jobs_with : ℕ → List ℕ → List (List ℕ)
jobs_with place line = slice_set jobs_text place line

-- the text of a job in a store that may have three hundred objects
abbrev pub sized_jobs_text : List (List ℕ)
sized_jobs_text = codes "objects 300" ∷ codes "max 20" ∷ codes "object undo 299" ∷ codes "job 0" ∷ codes "do 299 inc:1" ∷ codes "end" ∷ []

-- what its lines say
abbrev pub sized_jobs_lines : List (Line JobLine)
sized_jobs_lines = Objects 300 ∷ Max 20 ∷ Object Undo 299 None ∷ Entry (Job 0) ∷ Entry (Do 299 (codes "inc:1")) ∷ End ∷ []

-- it with another line in place of the one at a place, counted from 0
abbrev pub sized_jobs_with : ℕ → List ℕ → List (List ℕ)
sized_jobs_with place line = slice_set sized_jobs_text place line
