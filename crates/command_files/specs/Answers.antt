-- What comes of a command: an answer with its text, or a fault.
use Rattle.std.specs.Prelude.{◌≡◌, ◌⊎◌, ⊤, ℕ, List, take, Option, Result, Ok, Err}
use Rattle.std.specs.Io.KnownBytes.{Appends}
use Rattle.command_files.specs.declared.fault.Fault.{Fault}
use Rattle.command_files.specs.declared.fault.Fault.TheVariants.{CannotRead, Database, NoMemory, Output}
use Rattle.command_files.specs.declared.status.Verdict.{Verdict}

-- which texts answer a question, with a yes or with a no
abbrev pub Answers : Type 1
Answers = Verdict → List ℕ → Type 0

-- this answer with this text
abbrev pub IsThis : Verdict → List ℕ → Answers
IsThis verdict text v t = (v ≡ verdict) × (t ≡ text)

-- a text that answers
abbrev pub AnyAnswer : Answers → List ℕ → Type 0
AnyAnswer answers text = (v : Verdict) × answers v text

-- what comes of a fault: what the user gave has one, or a file can't be read or a database isn't opened, and the output took nothing; memory was refused, and it took
-- nothing or such a text as a whole; or the output failed, and took a beginning of a text that may be begun
abbrev pub Faults : Type 0 → (List ℕ → Type 0) → (List ℕ → Type 0) → Fault → Option (List ℕ) → Option (List ℕ) → Type 0
Faults bad whole begun (CannotRead path) old new = new ≡ old
Faults bad whole begun (Database path fault) old new = new ≡ old
Faults bad whole begun NoMemory old new = (new ≡ old) ⊎ ((text : List ℕ) × whole text × Appends old new text)
Faults bad whole begun Output old new = (text : List ℕ) × (n : ℕ) × begun text × Appends old new (take n text)
Faults bad whole begun fault old new = bad × (new ≡ old)

-- what comes of a command that may have written these texts as a whole where memory was refused, and begun these where the output failed
abbrev pub ComesOr : (List ℕ → Type 0) → (List ℕ → Type 0) → Answers → Type 0 → Result Verdict Fault → Option (List ℕ) → Option (List ℕ) → Type 0
ComesOr whole begun answers bad (Ok verdict) old new = (text : List ℕ) × answers verdict text × Appends old new text
ComesOr whole begun answers bad (Err fault) old new = Faults bad whole begun fault old new

-- what comes of a command that begins no other text than those of its answers, and where memory was refused has written nothing
abbrev pub Comes : Answers → Type 0 → Result Verdict Fault → Option (List ℕ) → Option (List ℕ) → Type 0
Comes answers bad result old new = ComesOr (λ text. ⊥) (AnyAnswer answers) answers bad result old new

-- a fault before anything was written: what the user gave has one, or a file can't be read or a database isn't opened, or memory was refused
abbrev pub IsEarlyFault : Type 0 → Fault → Type 0
IsEarlyFault bad (CannotRead path) = ⊤
IsEarlyFault bad (Database path fault) = ⊤
IsEarlyFault bad NoMemory = ⊤
IsEarlyFault bad Output = ⊥
IsEarlyFault bad fault = bad
