-- Reads of what is committed at the store that a handle holds.
use Rattle.std.specs.Prelude.{◌≡◌, ℕ, List, Option, Some}
use Rattle.store_laws.specs.Stored.{Stored}
use Rattle.library_calls.specs.Codes.{number}
use Rattle.library_calls.specs.Holding.{store_at}
use Rattle.library_calls.specs.Reads.{HasCommits, IsCommittedStateOf, IsPeekOf, IsSnapshotOf}
use Rattle.library_calls.specs.declared.code.Code.TheVariants.{Done}
use Rattle.library_calls.specs.declared.held.Held.{Held}
use Rattle.library_calls.specs.declared.words.ColockAnswer.{ColockAnswer}

abbrev pub Peeks : Option Held → ℕ → List ℕ → ℕ → ColockAnswer → ℕ → Type 0
Peeks held x name n words count = (s : Stored) → store_at held ≡ Some s → IsPeekOf s x name n words count

abbrev pub TellsCommitted : Option Held → ℕ → ℕ → ℕ → ℕ → Type 0
TellsCommitted held x n state count = (s : Stored) → store_at held ≡ Some s → IsCommittedStateOf s x n state count

abbrev pub TakesSnapshot : Option Held → List ℕ → ℕ → List ℕ → ℕ → Type 0
TakesSnapshot held old n new count = (s : Stored) → store_at held ≡ Some s → IsSnapshotOf s old n new count

abbrev pub CountsCommits : Option Held → ℕ → ℕ → Type 0
CountsCommits held n count = (s : Stored) → store_at held ≡ Some s → (n ≡ number Done) × HasCommits s count
