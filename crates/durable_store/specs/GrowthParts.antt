-- How what is added to a store in a file is put together.
use Rattle.std.specs.Prelude.{◌≡◌, ◌⊎◌, ◌↔◌, ⊤, ℕ, true, ◌+◌, ◌≤◌, List, [], ◌∷◌, ◌++◌, length, map, slice_get, Some}
use Rattle.sqlite_trees.specs.declared.store.Store.{Ghosts}
use Rattle.sqlite_trees.specs.Tree.{Trees}
use Rattle.object_trait.specs.Meaning.{Meaning}
use Rattle.table_checker.specs.Checked.{Checked}
use Rattle.store_laws.specs.Stored.{Stored, types_of}
use Rattle.store.specs.Ends.{AreFresh}
use Rattle.carried_orders.specs.Orders.{AreStrong}
use Rattle.store.specs.Retraces.{IsTracedHistory}
use Rattle.objects.specs.Object.{meaning_of}
use Rattle.store_text.specs.declared.line.ObjectLine.{ObjectLine}
use Rattle.event_text.specs.EventText.{events_of_kinds}
use Rattle.journal.specs.declared.prepared_row.Prepared.{Prepared}
use Rattle.journal.specs.Contents.{IsFile, contents_of, extended}
use Rattle.journal.specs.Journal.{Clean, IsJournal, IsSettled, may_leave, written}
use Rattle.durable_store.specs.declared.durable.Durable.{Durable}
use Rattle.durable_store.specs.declared.growth.Growth.{Growth}
use Rattle.durable_store.specs.declared.open_error.OpenError.{OpenError}
use Rattle.durable_store.specs.declared.open_error.OpenError.TheVariants.{NameTaken, NotExtended, NotMade, NotPrepared}
use Rattle.durable_store.specs.Durable.{kinds}
use Rattle.durable_store.specs.Epochs.{GoesOver, RefusesOver, firsts}
use Rattle.durable_store.specs.Held.{ArePrepared}
use Rattle.durable_store.specs.FileLimits.{file_limits}
use Rattle.durable_store.specs.Names.{IndexesNames, IsFirstTaken}
use Rattle.durable_store.specs.Growth.{AreAdded, ArePlaced, AreUnknown, grown}
use Rattle.durable_store.specs.Types.{HasTypes}

-- each line with the place that stands at its place
pub record ArePlacesOf (places : List ℕ) (lines placed : List ObjectLine) : Type 0 where
  pub as_many : length placed ≡ length lines
  pub each : (x : ℕ) (line at : ObjectLine) → slice_get lines x ≡ Some line → slice_get placed x ≡ Some at → (at.kind ≡ line.kind) × (at.name ≡ line.name)
      × (slice_get places line.file ≡ Some at.file)

-- what is added where a file has these texts: objects of these lines, which mean types among the given texts
pub record IsGrowth (known texts : List (List ℕ)) (lines : List ObjectLine) (g : Growth) : Type 0 where
  pub few : length known + length g.texts.items ≤ 65536
  pub unknown : AreUnknown known g.texts.items
  pub placed : ArePlaced texts (known ++ g.texts.items) lines g.lines.items
  pub fresh : AreFresh (map meaning_of g.objects.items)
  pub are : AreAdded texts lines (types_of (map meaning_of g.objects.items))

-- why nothing can be added to these objects: a name is taken, or an error of the texts, the types or the objects
abbrev pub IsGrowthError : List ObjectLine → List ObjectLine → OpenError → Type 0
IsGrowthError known lines (NameTaken x) = IsFirstTaken known lines x
IsGrowthError known lines (NotExtended why) = ⊥
IsGrowthError known lines (NotMade place) = ⊥
IsGrowthError known lines (NotPrepared place) = ⊥
IsGrowthError known lines error = ⊤

-- where the store refuses, it is for these objects, whatever their names
abbrev pub RefusesObjects : List Meaning → Stored → List Prepared → OpenError → Type 0
RefusesObjects ms old prepared (NotExtended why) = RefusesOver old prepared ms why
RefusesObjects ms old prepared (NameTaken x) = ⊥
RefusesObjects ms old prepared error = ⊤

-- a crash leaves what it could have left before, or the store that has grown by these texts and objects
abbrev pub LeavesGrown : {S : Type 0} (g : Ghosts S) → List (List ℕ) → List ObjectLine → List Checked → Durable S → Durable S → Type 0
LeavesGrown g fresh placed added old new = (db : Trees) → may_leave g new.journal db
    → (Clean g old.journal × IsFile db × ((s : Stored) × (ps : List Prepared) × GoesOver added old.store old.prepared.items s ps
    × (contents_of db ≡ grown (written g old.journal) fresh placed s.types (kinds s.history) ps))
    × ((written g old.journal).headers ≡ old.journal.header ∷ [])) ⊎ may_leave g old.journal db

-- the store has begun anew with more objects, and its journal hasn't yet
pub record IsAheadBy {S : Type 0} (g : Ghosts S) (fresh : List (List ℕ)) (placed : List ObjectLine) (d : Durable S) : Type 0 where
  pub journal : IsJournal g d.journal
  pub settled : Clean g d.journal → IsSettled g d.journal
  pub limit : d.store.limits ≡ file_limits
  pub remembered : d.store.forgotten ≡ 0
  pub by_zero : Clean g d.journal → d.store.history ≡ events_of_kinds (kinds d.store.history)
  pub own : IsTracedHistory d.store
  pub strong : (d.strong ≡ true) ↔ AreStrong d.store.types
  pub named : Clean g d.journal → IndexesNames ((written g d.journal).objects ++ placed) d.names
  pub some : length placed ≤ length d.store.types
  pub as_many : Clean g d.journal → length d.store.types ≡ length (written g d.journal).states + length placed
  pub objects : Clean g d.journal → length (written g d.journal).objects ≡ length (written g d.journal).states
  pub types : Clean g d.journal → HasTypes (extended (written g d.journal) fresh placed (firsts d.store.types)) d.store.types
  pub prepared : Clean g d.journal → ArePrepared d.store.history (record (written g d.journal) { prepared = d.prepared.items }) d.prepared.items
