-- The file of a new store.
use Rattle.std.specs.Prelude.{◌≡◌, ◌≤◌, ⊤, ℕ, List, [], ◌∷◌, None}
use Rattle.table_checker.specs.Checked.{Checked}
use Rattle.store_text.specs.declared.line.ObjectLine.{ObjectLine}
use Rattle.journal.specs.declared.header.Header.{Header}
use Rattle.journal.specs.Contents.{Contents, newest_format}
use Rattle.durable_store.specs.declared.open_error.OpenError.{OpenError}
use Rattle.durable_store.specs.declared.open_error.OpenError.TheVariants.{Journal}
use Rattle.durable_store.specs.Types.{HasTypes}
use Rattle.durable_store.specs.Epochs.{firsts}

-- the versions that are read: in a file of the first no type is a number, in one of the second no operation has an amount, in one of the third
-- no object has a name, in one of the fourth each event has a row of its own, in one of the fifth no transaction has a key, in one of the sixth none is
-- prepared, and in one of the seventh no outcome has a number
abbrev pub IsReadFormat : ℕ → Type 0
IsReadFormat format = (1 ≤ format) × (format ≤ newest_format)

-- the header of a new file: no store was made of it yet
abbrev pub first_header : List ℕ → Header
first_header id = record { format = newest_format; id = id; life = 0 }

-- these texts and objects, which have types that begin at their initial states, no event, and no transaction that is prepared or had a key
pub record IsNewFile (id : List ℕ) (given : List (List ℕ)) (lines : List ObjectLine) (c : Contents) : Type 0 where
  pub headers : c.headers ≡ first_header id ∷ []
  pub texts : c.types ≡ given
  pub objects : c.objects ≡ lines
  pub none : c.events ≡ []
  pub unprepared : c.prepared ≡ []
  pub keyless : (n : ℕ) → c.outcomes.at n ≡ None
  pub types : List Checked
  pub are : HasTypes c types
  pub states : c.states ≡ firsts types

-- an error that isn't the file's leaves the trees as they were
abbrev pub IsLeft : {S : Type 0} → OpenError → S → S → Type 0
IsLeft (Journal fault) old new = ⊤
IsLeft error old new = new ≡ old
