-- How the program ends with what its output has gathered.
use Rattle.std.specs.Prelude.{◌≡◌, ◌⊎◌, ℕ, List, Option, Result, Ok, Err}
use Rattle.std.specs.Io.KnownBytes.{Keeps, append_known}
use Rattle.command_files.specs.Status.{status_of, status_of_verdict}
use Rattle.command_files.specs.declared.fault.Fault.{Fault}
use Rattle.command_files.specs.declared.status.Status.{Status}
use Rattle.command_files.specs.declared.status.Status.TheVariants.{Failed}
use Rattle.command_files.specs.declared.status.Verdict.{Verdict}

-- what was gathered was handed on as a whole
abbrev pub IsHandedOn : Option (List ℕ) → Option (List ℕ) → Type 0
IsHandedOn gathered took = Keeps gathered took

-- a beginning of it was handed on
abbrev pub IsPartHandedOn : Option (List ℕ) → Option (List ℕ) → Type 0
IsPartHandedOn gathered took = (rest : List ℕ) × Keeps gathered (append_known took rest)

-- an answer has its status, all was handed on, and standard error took nothing; a fault has its status; or the program failed, and a
-- beginning was handed on
abbrev pub Concludes : Result Verdict Fault → Option (List ℕ) → Status → Option (List ℕ) → Option (List ℕ) → Option (List ℕ) → Type 0
Concludes (Ok verdict) gathered status took err new_err =
    ((status ≡ status_of_verdict verdict) × IsHandedOn gathered took × (new_err ≡ err)) ⊎ ((status ≡ Failed) × IsPartHandedOn gathered took)
Concludes (Err fault) gathered status took err new_err = ((status ≡ status_of fault) × IsHandedOn gathered took) ⊎ ((status ≡ Failed) × IsPartHandedOn gathered took)
