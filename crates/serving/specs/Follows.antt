-- What serving does to the file.
use Rattle.std.specs.Prelude.{◌≡◌, ◌⊎◌, ℕ, List, ◌++◌, Some}
use Rattle.sqlite_trees.specs.declared.store.Store.{Ghosts}
use Rattle.sqlite_trees.specs.Tree.{Trees}
use Rattle.object_trait.specs.declared.event.EventKind.{EventKind}
use Rattle.journal.specs.declared.outcome_row.KeyedOutcome.{KeyedOutcome}
use Rattle.journal.specs.declared.prepared_row.Prepared.{Prepared}
use Rattle.journal.specs.Contents.{Contents, IsFile, contents_of}
use Rattle.journal.specs.Journal.{Clean, IsAsWritten, may_leave, written}
use Rattle.durable_store.specs.declared.durable.Durable.{Durable}

-- the same file with events more, with transactions prepared more, and with what became of transactions more: what it knew of one stays so
pub record HasMore (old new : Contents) : Type 0 where
  pub more : List EventKind
  pub events : new.events ≡ old.events ++ more
  pub outcomes : (n : ℕ) (kept : KeyedOutcome) → old.outcomes.at n ≡ Some kept → new.outcomes.at n ≡ Some kept
  pub rows : List Prepared
  pub prepared : new.prepared ≡ old.prepared ++ rows
  pub others : new ≡ record old { events = new.events; outcomes = new.outcomes; prepared = new.prepared }

-- a crash leaves what it could have left before, or all that was written then, and what followed
abbrev pub LeavesMore : {S : Type 0} (g : Ghosts S) → Durable S → Durable S → Type 0
LeavesMore g old new = (db : Trees) → may_leave g new.journal db
    → (Clean g old.journal × IsFile db × HasMore (written g old.journal) (contents_of db)) ⊎ may_leave g old.journal db

-- what is written is what was, and what followed
abbrev pub WritesMore : {S : Type 0} (g : Ghosts S) → Durable S → Durable S → Type 0
WritesMore g old new = Clean g new.journal → HasMore (written g old.journal) (written g new.journal)

-- a crash leaves what it could have left before, or all that was written then, and nothing else
abbrev pub LeavesWritten : {S : Type 0} (g : Ghosts S) → Durable S → Durable S → Type 0
LeavesWritten g old new = (db : Trees) → may_leave g new.journal db → IsAsWritten g old.journal db ⊎ may_leave g old.journal db
