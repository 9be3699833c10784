-- Epoch after epoch.
use Rattle.std.specs.Prelude.{◌⊎◌, Bool, true, false, List, [], ◌∷◌, ◌++◌, Option}
use Rattle.sqlite_trees.specs.declared.store.Store.{Ghosts}
use Rattle.sqlite_trees.specs.Tree.{Trees}
use Rattle.object_trait.specs.declared.event.Event.{Event}
use Rattle.store_laws.specs.Stored.{Stored}
use Rattle.store.specs.Ends.{closing_but}
use Rattle.durable_store.specs.Durable.{prepared_in}
use Rattle.durable_store.specs.Held.{prepared_numbers}
use Rattle.journal.specs.declared.prepared_row.Prepared.{Prepared}
use Rattle.journal.specs.Contents.{Contents, IsFile, contents_of}
use Rattle.journal.specs.Journal.{Clean, may_leave, written}
use Rattle.durable_store.specs.declared.durable.Durable.{Durable}
use Rattle.durable_store.specs.Recovered.{IsStoreOf}
use Rattle.serving.specs.Archives.{KeepsAtLeast, KeepsEpochs, KeptHistory}
use Rattle.serving.specs.declared.extension.Extension.{Extension}
use Rattle.serving.specs.Follows.{HasMore}
use Rattle.serving.specs.NextEpoch.{IsNextFile}

-- what happens as an epoch ends: nothing where all that is open goes over, and else an abort of each transaction that is open, but of these, which are prepared
abbrev pub closings : Bool → List Prepared → Stored → List Event
closings true ps s = []
closings false ps s = closing_but (prepared_numbers ps) s.history

-- a store after that
abbrev pub closed_by : Bool → List Prepared → Stored → Stored
closed_by goes ps s = record s { history = s.history ++ closings goes ps s }

-- what a file comes to: events follow, or it begins anew at the committed states of the store of what it says, and maybe with more objects; and
-- what it said at the end of each epoch that is over, in their order
pub data Reaches (c : Contents) : List Contents → Contents → Type 0 where
  none : Reaches c [] c
  events : (ended : List Contents) (mid new : Contents) → Reaches c ended mid → HasMore mid new → Reaches c ended new
  epoch : (ended : List Contents) (mid now : Contents) (waits : Option Extension) (old new : Stored) (ps : List Prepared) → Reaches c ended mid → IsStoreOf mid old → IsNextFile waits (prepared_in mid) old new ps mid now
      → Reaches c (ended ++ mid ∷ []) now

-- a crash leaves what it could have left before, or what the file came to from what was written then; an archive that kept these histories now
-- keeps, after them, those of all epochs that are over
abbrev pub LeavesEpochs : {S : Type 0} (g : Ghosts S) → Durable S → Durable S → Option (List KeptHistory) → Option (List KeptHistory) → Type 0
LeavesEpochs g old new kept kept_now = (db : Trees) → may_leave g new.journal db
    → (Clean g old.journal × IsFile db × ((ended : List Contents) × Reaches (written g old.journal) ended (contents_of db) × KeepsAtLeast kept kept_now ended))
    ⊎ (may_leave g old.journal db × KeepsAtLeast kept kept_now [])

-- what is written is what the file came to, and the archive keeps the histories of the epochs that are over since, and nothing else since
abbrev pub WritesEpochs : {S : Type 0} (g : Ghosts S) → Durable S → Durable S → Option (List KeptHistory) → Option (List KeptHistory) → Type 0
WritesEpochs g old new kept kept_now =
    Clean g new.journal → (ended : List Contents) × Reaches (written g old.journal) ended (written g new.journal) × KeepsEpochs kept kept_now ended
