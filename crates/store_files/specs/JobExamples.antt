-- The jobs of the worked text.
use Rattle.std.specs.Prelude.{◌≡◌, ℕ, List, [], ◌∷◌, map, None, codes}
use Rattle.type_table.specs.declared.kind.Kind.TheVariants.{Undo}
use Rattle.store_text.specs.declared.line.ObjectLine.{ObjectLine}
use Rattle.jobs_text.specs.Jobs.{Call, calls_in}
use Rattle.jobs_text.specs.declared.jobs_file.JobsFile.{JobsFile}

-- the jobs say no size, and have this limit, these objects and these lists
pub record HasJobs (max : ℕ) (objects : List ObjectLine) (lists : List (List (List Call))) (file : JobsFile) : Type 0 where
  pub size_is : file.size ≡ None
  pub max_is : file.max ≡ max
  pub objects_are : file.objects.items ≡ objects
  pub jobs_are : map calls_in file.jobs.items ≡ lists

-- the example's jobs: one object
abbrev pub one_object : List ObjectLine
one_object = record { kind = Undo; file = 0; name = None } ∷ []

-- and a job without calls for worker 0, two jobs for worker 1
abbrev pub both_lists : List (List (List Call))
both_lists = ([] ∷ []) ∷ (((0, codes "inc:1") ∷ (255, codes "dec:1") ∷ []) ∷ ((0, codes "dec:1") ∷ []) ∷ []) ∷ []
