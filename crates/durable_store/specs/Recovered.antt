-- What an open finds: the types and the history of the file, who is prepared, and an abort of each other transaction that was open.
use Rattle.std.specs.Prelude.{◌≡◌, ◌⊎◌, ⊤, ℕ, suc, List, [], ◌∷◌, ◌++◌}
use Rattle.sqlite_trees.specs.declared.store.Store.{Ghosts}
use Rattle.store_laws.specs.Stored.{Stored}
use Rattle.store.specs.Ends.{closing_but}
use Rattle.store.specs.Retraces.{AreRetraced}
use Rattle.table_checker.specs.Checked.{Checked}
use Rattle.event_text.specs.EventText.{events_of_kinds}
use Rattle.durable_store.specs.declared.open_error.OpenError.{OpenError}
use Rattle.durable_store.specs.declared.open_error.OpenError.TheVariants.{NameTaken, NotExtended, NotMade, NotPrepared}
use Rattle.journal.specs.declared.header.Header.{Header}
use Rattle.journal.specs.Contents.{Contents, in_life}
use Rattle.journal.specs.Journal.{Clean, IsOpen, ShowsCommit, durable, written}
use Rattle.durable_store.specs.declared.durable.Durable.{Durable}
use Rattle.durable_store.specs.Types.{HasTypes}
use Rattle.durable_store.specs.Durable.{prepared_in, with_all}
use Rattle.durable_store.specs.Held.{ArePrepared, prepared_numbers}
use Rattle.durable_store.specs.FileLimits.{file_limits}

-- ---- the store

-- a store of the file's types with its history, and the limits of a file's store
pub record IsStoreOf (c : Contents) (s : Stored) : Type 0 where
  pub types : HasTypes c s.types
  pub history : s.history ≡ events_of_kinds c.events
  pub limit : s.limits ≡ file_limits

-- a new store of these types
abbrev pub begun_store : List Checked → Stored
begun_store types = record { types = types; history = []; limits = file_limits; forgotten = 0 }

-- an error of the store: it doesn't make an event of the file, no transaction is prepared as a row says, it doesn't begin anew with more objects, or a name
-- is taken
abbrev pub IsStrayError : OpenError → Type 0
IsStrayError (NotMade place) = ⊤
IsStrayError (NotPrepared place) = ⊤
IsStrayError (NotExtended why) = ⊤
IsStrayError (NameTaken x) = ⊤
IsStrayError error = ⊥

-- there is a store of the file's types that doesn't make its events, one after another, where no memory is refused
abbrev pub IsNotMade : Contents → Type 0
IsNotMade c = (types : List Checked) × HasTypes c types × (AreRetraced (begun_store types) (events_of_kinds c.events) → ⊥)

-- it is so, or its rows of who is prepared aren't those of any store
abbrev pub IsNotFollowed : Contents → Type 0
IsNotFollowed c = IsNotMade c ⊎ (ArePrepared (events_of_kinds c.events) c (prepared_in c) → ⊥)

-- the number of the next life
abbrev pub next_life : List Header → ℕ
next_life [] = 0
next_life (h ∷ hs) = suc h.life

-- the file as an open leaves it: with an abort of each transaction that was open and isn't prepared, in the next life
abbrev pub recovered : Contents → Contents
recovered c = in_life (with_all c (closing_but (prepared_numbers (prepared_in c)) (events_of_kinds c.events))) (next_life c.headers)

-- the store that an open gives of this file
pub record IsRecovered {S : Type 0} (g : Ghosts S) (c : Contents) (d : Durable S) : Type 0 where
  pub types : HasTypes c d.store.types
  pub history : d.store.history ≡ events_of_kinds c.events ++ closing_but (prepared_numbers (prepared_in c)) (events_of_kinds c.events)
  pub prepared : d.prepared.items ≡ prepared_in c
  pub written : written g d.journal ≡ recovered c
  pub durable : durable g d.journal ≡ recovered c

-- what a recovery does to a store that was made again
pub record Recovers {S : Type 0} (g : Ghosts S) (old new : Durable S) : Type 0 where
  pub types : new.store.types ≡ old.store.types
  pub history : new.store.history ≡ old.store.history ++ closing_but (prepared_numbers old.prepared.items) old.store.history
  pub prepared : new.prepared ≡ old.prepared
  pub clean : Clean g new.journal → Clean g old.journal
  pub is_open : Clean g new.journal → IsOpen g new.journal
  pub shows : ShowsCommit g new.journal
  pub durable : Clean g new.journal → durable g new.journal ≡ recovered (written g old.journal)
  pub written : Clean g new.journal → written g new.journal ≡ recovered (written g old.journal)
