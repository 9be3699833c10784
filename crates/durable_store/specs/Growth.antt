-- Objects that are added to a durable store.
use Rattle.std.specs.Prelude.{◌≡◌, ◌⊎◌, ⊤, ℕ, List, ◌∷◌, [], ◌++◌, length, slice_get, Some}
use Rattle.sqlite_trees.specs.declared.store.Store.{Ghosts}
use Rattle.sqlite_trees.specs.Tree.{Trees}
use Rattle.object_trait.specs.Meaning.{Meaning}
use Rattle.table_checker.specs.Checked.{Checked}
use Rattle.store_laws.specs.Stored.{Stored, types_of}
use Rattle.store.specs.Ends.{AreFresh}
use Rattle.store_text.specs.declared.line.ObjectLine.{ObjectLine}
use Rattle.object_trait.specs.declared.event.EventKind.{EventKind}
use Rattle.journal.specs.declared.prepared_row.Prepared.{Prepared}
use Rattle.journal.specs.Contents.{Contents, IsFile, contents_of, extended, in_life}
use Rattle.journal.specs.Journal.{Clean, ShowsCommit, may_leave, written}
use Rattle.durable_store.specs.declared.durable.Durable.{Durable}
use Rattle.durable_store.specs.declared.open_error.OpenError.{OpenError}
use Rattle.durable_store.specs.declared.open_error.OpenError.TheVariants.{Journal, NotExtended}
use Rattle.durable_store.specs.Durable.{IsDurable, KeepsSettled, kinds}
use Rattle.durable_store.specs.Epochs.{GoesOver, RefusesOver, firsts}
use Rattle.durable_store.specs.Recovered.{next_life}
use Rattle.durable_store.specs.Types.{AreTypes}

-- ---- what is added

-- texts of types that others don't have, none of them twice
pub record AreUnknown (known fresh : List (List ℕ)) : Type 0 where
  pub other : (i j : ℕ) (text : List ℕ) → slice_get known i ≡ Some text → slice_get fresh j ≡ Some text → ⊥
  pub once : (i j : ℕ) (text : List ℕ) → slice_get fresh i ≡ Some text → slice_get fresh j ≡ Some text → i ≡ j

-- each object is of its line's kind and has its name, and at its place among all texts is the one that its line means among the given ones
pub record ArePlaced (texts all : List (List ℕ)) (lines placed : List ObjectLine) : Type 0 where
  pub as_many : length placed ≡ length lines
  pub each : (x : ℕ) (line at : ObjectLine) → slice_get lines x ≡ Some line → slice_get placed x ≡ Some at → (at.kind ≡ line.kind) × (at.name ≡ line.name)
      × (slice_get all at.file ≡ slice_get texts line.file)

-- the types of objects that begin at their initial states
abbrev pub AreAdded : List (List ℕ) → List ObjectLine → List Checked → Type 0
AreAdded texts lines added = AreTypes texts lines (firsts added) added

-- ---- a store that has grown

-- the file with these texts and objects behind its own, as a new epoch leaves it: at the states of all these types, with these events, and with these
-- transactions prepared, in the next life
abbrev pub grown : Contents → List (List ℕ) → List ObjectLine → List Checked → List EventKind → List Prepared → Contents
grown c fresh placed types events prepared = in_life (record (extended c fresh placed (firsts types)) { events = events; prepared = prepared }) (next_life c.headers)

-- objects of these lines, which mean types among these texts, are added to a file and to its store, and what goes over is in it
pub record Grows (texts : List (List ℕ)) (lines : List ObjectLine) (old : Stored) (prepared : List Prepared) (new : Stored) (ps : List Prepared) (c now : Contents) : Type 0 where
  pub added : List Checked
  pub are : AreAdded texts lines added
  pub over : GoesOver added old prepared new ps
  pub fresh : List (List ℕ)
  pub unknown : AreUnknown c.types fresh
  pub placed : List ObjectLine
  pub are_placed : ArePlaced texts (c.types ++ fresh) lines placed
  pub is : now ≡ grown c fresh placed new.types (kinds new.history) ps

-- a crash leaves what it could have left before, or the store that has grown
abbrev pub LeavesGrowth : {S : Type 0} (g : Ghosts S) → List (List ℕ) → List ObjectLine → Durable S → Durable S → Type 0
LeavesGrowth g texts lines old new = (db : Trees) → may_leave g new.journal db
    → (Clean g old.journal × IsFile db × ((s : Stored) × (ps : List Prepared) × Grows texts lines old.store old.prepared.items s ps (written g old.journal) (contents_of db))
    × ((written g old.journal).headers ≡ old.journal.header ∷ [])) ⊎ may_leave g old.journal db

-- ---- a refusal

-- an error that isn't the file's
abbrev pub IsRefusal : OpenError → Type 0
IsRefusal (Journal fault) = ⊥
IsRefusal error = ⊤

-- nothing has changed that lasts
pub record IsAsBefore {S : Type 0} (g : Ghosts S) (old new : Durable S) : Type 0 where
  pub sound : IsDurable g new
  pub store : new.store ≡ old.store
  pub prepared : new.prepared ≡ old.prepared
  pub header : new.journal.header ≡ old.journal.header
  pub written : Clean g new.journal → written g new.journal ≡ written g old.journal
  pub settled : KeepsSettled g old new
  pub shows : ShowsCommit g new.journal

-- where the store refuses, it is for objects of these lines
abbrev pub RefusesGrowth : List (List ℕ) → List ObjectLine → Stored → List Prepared → OpenError → Type 0
RefusesGrowth texts lines old prepared (NotExtended why) =
    (ms : List Meaning) × AreAdded texts lines (types_of ms) × AreFresh ms × RefusesOver old prepared ms why
RefusesGrowth texts lines old prepared error = ⊤

-- ---- inside

-- the places of given texts among all of them
pub record HavePlaces (texts all : List (List ℕ)) (places : List ℕ) : Type 0 where
  pub as_many : length places ≡ length texts
  pub each : (k place : ℕ) (text : List ℕ) → slice_get texts k ≡ Some text → slice_get places k ≡ Some place → slice_get all place ≡ Some text
