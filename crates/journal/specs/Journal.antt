-- What a journal holds.
use Rattle.std.specs.Prelude.{◌≢◌, codes, pos, ◌≡◌, ◌⊎◌, ◌+◌, ◌<◌, ℕ, false, List, [], ◌∷◌, length, map, IsTrue}
use Rattle.std.specs.List.{AllByRecursion}
use Rattle.sqlite_value.specs.declared.value.Value.TheVariants.{Text}
use Rattle.sqlite_value.specs.Order.{Row, column}
use Rattle.sqlite_trees.specs.declared.store.Store.{Ghosts}
use Rattle.sqlite_trees.specs.declared.store.Shape.TheVariants.{Table}
use Rattle.sqlite_trees.specs.Tree.{Trees, has_rowid}
use Rattle.sqlite_trees.specs.Objects.{catalog_tree}
use Rattle.sqlite_trees.specs.View.{IsClean, View}
use Rattle.event_text.specs.EventText.{AreShort}
use Rattle.journal.specs.declared.header.Header.{Header}
use Rattle.journal.specs.declared.journal.Journal.{Journal}
use Rattle.journal.specs.Contents.{Contents, IsFile, contents_by, contents_of, with_pending}
use Rattle.journal.specs.EventRow.{event_told, row_starts}
use Rattle.journal.specs.Numbers.{numbers_in}
use Rattle.journal.specs.OutcomeIndex.{CountsOutcomes}
use Rattle.journal.specs.Tables.{IsUnused}

-- the seven tables are there
pub record HasTables (v : View) : Type 0 where
  pub each : (t : ℕ) → t < 7 → v.shape t ≡ Table

-- where the name is in a row of the list of a file's objects
abbrev pub name_column : ℕ
name_column = 2

-- the tables that are made anew, with their names: those of events and of prepared transactions by each epoch, the last two by a newer format
abbrev pub IsRemade : ℕ → List ℕ → Type 0
IsRemade table name = ((table ≡ 0) × (name ≡ codes "event")) ⊎ (((table ≡ 5) × (name ≡ codes "prepared")) ⊎ ((table ≡ 6) × (name ≡ codes "outcome")))

-- an object of the list has the name of such a table only where it is that table
abbrev pub IsOwnNamed : Row → Type 0
IsOwnNamed r = (table : ℕ) (name : List ℕ) → IsRemade table name → has_rowid (pos (table + 1)) r ≡ false → column r name_column ≢ Text name

abbrev pub IsNamedOnce : List Row → Type 0
IsNamedOnce = AllByRecursion IsOwnNamed

-- what the store shows: while it is not broken, a file of a store with this header, this many events, whose rows begin at these of them and whose numbers
-- are of 32 bits, and this many prepared transactions
pub record IsKeptFile (v : View) (starts : List ℕ) (count prepared : ℕ) (header : Header) : Type 0 where
  pub tables : HasTables v
  pub file : v.is_broken ≡ false → IsFile v.trees
  pub count_is : v.is_broken ≡ false → count ≡ length (contents_of v.trees).events
  pub starts_are : v.is_broken ≡ false → starts ≡ row_starts 0 (map event_told (v.trees 0))
  pub short : v.is_broken ≡ false → AreShort (contents_of v.trees).events
  pub header_is : v.is_broken ≡ false → (contents_of v.trees).headers ≡ header ∷ []
  pub prepared_are : v.is_broken ≡ false → prepared ≡ length (contents_of v.trees).prepared
  pub kept : IsTrue v.is_open → IsFile v.committed
  pub numbered : IsTrue v.is_numbered
  pub named : v.is_broken ≡ false → IsNamedOnce (v.trees catalog_tree)

module _ {S : Type 0} (g : Ghosts S) where
  -- what was written: what is pending too, which the next commit makes a row of, and the outcomes that it counts in theirs
  abbrev pub written : Journal S → Contents
  written it = with_pending (contents_by it.numbers (g.view it.store).trees) it.pending

  -- what was there at the last commit
  abbrev pub durable : Journal S → Contents
  durable it = contents_of (g.view it.store).committed

  -- no wrong answer of the disk was taken as true
  abbrev pub Clean : Journal S → Type 0
  Clean it = IsClean (g.view it.store)

  abbrev pub IsOpen : Journal S → Type 0
  IsOpen it = IsTrue (g.view it.store).is_open

  -- what an open after a crash at this moment may find
  abbrev pub may_leave : Journal S → Trees → Type 0
  may_leave it = g.recovers it.store

  abbrev pub IsJournal : Journal S → Type 0
  IsJournal it = IsClean (g.view it.store) → IsKeptFile (g.view it.store) it.starts.items it.settled it.prepared it.header × (it.count ≡ it.settled + length it.pending)
      × CountsOutcomes (g.view it.store) it.numbers it.index

  -- the file that a commit at this moment may leave: all that was written, under this header
  abbrev pub IsAsWritten : Journal S → Trees → Type 0
  IsAsWritten it db = Clean it × IsFile db × (contents_of db ≡ written it) × ((contents_of db).headers ≡ it.header ∷ [])

  -- a crash at this moment leaves the file as it was at the last commit
  abbrev pub IsSettled : Journal S → Type 0
  IsSettled it = (db : Trees) → may_leave it db → contents_of db ≡ durable it

  -- nothing is written that isn't durable: nothing is pending, all outcomes are counted, and the trees show their last commit
  abbrev pub ShowsCommit : Journal S → Type 0
  ShowsCommit it = IsClean (g.view it.store) → IsUnused (g.view it.store) × (it.pending ≡ []) × (it.numbers ≡ numbers_in ((g.view it.store).trees 6))

  -- its trees are listed by their numbers, as an open of the file gives it
  abbrev pub IsNumbered : Journal S → Type 0
  IsNumbered it = IsClean (g.view it.store) → IsTrue (g.view it.store).is_numbered
