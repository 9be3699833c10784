-- A new epoch of a durable store.
use Rattle.std.specs.Prelude.{◌≡◌, ◌⊎◌, ◌↔◌, ℕ, true, List, ◌∷◌, [], ◌++◌, map, length}
use Rattle.sqlite_trees.specs.declared.store.Store.{Ghosts}
use Rattle.sqlite_trees.specs.Tree.{Trees}
use Rattle.object_trait.specs.Meaning.{Meaning}
use Rattle.object_trait.specs.declared.event.EventKind.{EventKind}
use Rattle.table_checker.specs.Checked.{Checked}
use Rattle.event_text.specs.EventText.{events_of_kinds}
use Rattle.journal.specs.declared.prepared_row.Prepared.{Prepared}
use Rattle.journal.specs.declared.state_row.FirstState.{FirstState}
use Rattle.journal.specs.Contents.{Contents, IsFile, contents_of, from_states, in_life}
use Rattle.journal.specs.Journal.{Clean, IsJournal, IsSettled, may_leave, written}
use Rattle.store_laws.specs.Stored.{Stored}
use Rattle.carried_orders.specs.Orders.{AreStrong}
use Rattle.store.specs.Carries.{Carries, RefusesCarry}
use Rattle.store.specs.CarriesAll.{CarriesAll, IsUnseen, RefusesAll, open_ones}
use Rattle.store.specs.Retraces.{IsTracedHistory}
use Rattle.store.specs.declared.refusals.CarryRefusal.{CarryRefusal}
use Rattle.durable_store.specs.declared.durable.Durable.{Durable}
use Rattle.durable_store.specs.Durable.{kinds}
use Rattle.durable_store.specs.FileLimits.{file_limits}
use Rattle.durable_store.specs.Types.{HasTypes}
use Rattle.durable_store.specs.Names.{IndexesNames}
use Rattle.durable_store.specs.Held.{AreTheirNumbers, ArePrepared, moved_among}
use Rattle.durable_store.specs.Recovered.{next_life}

-- ---- the file

-- the states at which types begin
abbrev pub firsts : List Checked → List FirstState
firsts types = map (λ (c : Checked). let it : FirstState = record { state = c.file.table.initial } in it) types

-- with these prepared transactions more
abbrev pub with_all_prepared : Contents → List Prepared → Contents
with_all_prepared c more = record c { prepared = c.prepared ++ more }

-- the file as a new epoch leaves it: with no event, at the states of these types, in the next life
abbrev pub renewed : Contents → List Checked → Contents
renewed c types = in_life (from_states c (firsts types)) (next_life c.headers)

-- and where it begins with these events, and with these transactions prepared
abbrev pub renewed_with : Contents → List Checked → List EventKind → List Prepared → Contents
renewed_with c types events prepared = in_life (record (from_states c (firsts types)) { events = events; prepared = prepared }) (next_life c.headers)

-- ---- the store

-- the store has begun anew, by worker 0, and its journal hasn't yet
pub record IsAhead {S : Type 0} (g : Ghosts S) (d : Durable S) : Type 0 where
  pub journal : IsJournal g d.journal
  pub settled : Clean g d.journal → IsSettled g d.journal
  pub limit : d.store.limits ≡ file_limits
  pub remembered : d.store.forgotten ≡ 0
  pub by_zero : Clean g d.journal → d.store.history ≡ events_of_kinds (kinds d.store.history)
  pub own : IsTracedHistory d.store
  pub strong : (d.strong ≡ true) ↔ AreStrong d.store.types
  pub named : Clean g d.journal → IndexesNames (written g d.journal).objects d.names
  pub as_many : Clean g d.journal → length d.store.types ≡ length (written g d.journal).states
  pub types : Clean g d.journal → HasTypes (from_states (written g d.journal) (firsts d.store.types)) d.store.types
  pub prepared : Clean g d.journal → ArePrepared d.store.history (record (written g d.journal) { prepared = d.prepared.items }) d.prepared.items

-- it carries these over, with objects of these types more, and has let go of their events, which the file has
abbrev pub CarriesOver : Stored → List ℕ → List Checked → Stored → Type 0
CarriesOver old those added new = (s : Stored) × Carries old 0 those added s × (new ≡ record s { forgotten = length s.history })

-- all that is open, so that no later answer can tell it where each yes of what is added is strong too
abbrev pub CarriesAllOver : Stored → List Checked → Stored → Type 0
CarriesAllOver old added new = (s : Stored) × CarriesAll old added s × (AreStrong (old.types ++ added) → IsUnseen old added s) × (new ≡ record s { forgotten = length s.history })

-- it begins anew, and what goes over has other numbers there: all that is open where each yes is strong, and else what is prepared
pub data GoesOver (added : List Checked) (old : Stored) (prepared : List Prepared) (new : Stored) (now : List Prepared) : Type 0 where
  all : AreStrong old.types → CarriesAllOver old added new → now ≡ map (moved_among (open_ones old.history)) prepared → GoesOver added old prepared new now
  some : (AreStrong old.types → ⊥) → (those : List ℕ) → AreTheirNumbers prepared those → CarriesOver old those added new → now ≡ map (moved_among those) prepared → GoesOver added old prepared new now

-- why it doesn't, with these objects more
pub data RefusesOver (old : Stored) (prepared : List Prepared) (ms : List Meaning) (why : CarryRefusal) : Type 0 where
  refuses_all : AreStrong old.types → RefusesAll old ms why → RefusesOver old prepared ms why
  refuses_some : (AreStrong old.types → ⊥) → (those : List ℕ) → AreTheirNumbers prepared those → RefusesCarry old those ms why → RefusesOver old prepared ms why

-- ---- a crash

-- it leaves what it could have left before, or the new epoch of this store, in one commit
abbrev pub LeavesAhead : {S : Type 0} (g : Ghosts S) → Durable S → Durable S → Type 0
LeavesAhead g old new = (db : Trees) → may_leave g new.journal db
    → (Clean g old.journal × IsFile db × (contents_of db ≡ renewed_with (written g old.journal) old.store.types (kinds old.store.history) old.prepared.items)
    × ((written g old.journal).headers ≡ old.journal.header ∷ [])) ⊎ may_leave g old.journal db

-- it leaves what it could have left before, or the new epoch, at the states that had committed, in which what goes over goes on
abbrev pub LeavesEpoch : {S : Type 0} (g : Ghosts S) → Durable S → Durable S → Type 0
LeavesEpoch g old new = (db : Trees) → may_leave g new.journal db
    → (Clean g old.journal × IsFile db
    × ((s : Stored) × (ps : List Prepared) × GoesOver [] old.store old.prepared.items s ps × (contents_of db ≡ renewed_with (written g old.journal) s.types (kinds s.history) ps))
    × ((written g old.journal).headers ≡ old.journal.header ∷ [])) ⊎ may_leave g old.journal db
