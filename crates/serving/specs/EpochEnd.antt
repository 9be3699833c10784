-- The end of an epoch.
use Rattle.std.specs.Prelude.{◌≡◌, ◌⊎◌, suc, Bool, true, false, MatchBool, List, [], ◌∷◌, ◌++◌, Option, None, Some}
use Rattle.sqlite_trees.specs.declared.store.Store.{Ghosts}
use Rattle.sqlite_trees.specs.Tree.{Trees}
use Rattle.store_laws.specs.Stored.{Stored}
use Rattle.journal.specs.declared.prepared_row.Prepared.{Prepared}
use Rattle.journal.specs.Contents.{Contents, IsFile, contents_of}
use Rattle.journal.specs.Journal.{Clean, durable, may_leave, written}
use Rattle.durable_store.specs.declared.durable.Durable.{Durable}
use Rattle.durable_store.specs.Durable.{with_all}
use Rattle.durable_store.specs.Recovered.{IsStoreOf}
use Rattle.request_text.specs.declared.request.Asked.{Asked}
use Rattle.serving.specs.declared.answer_line.Answered.{Answered}
use Rattle.serving.specs.declared.answer_line.AnswerLine.TheVariants.{Done}
use Rattle.serving.specs.declared.extension.Extension.{Extension}
use Rattle.serving.specs.Epochs.{closed_by, closings}
use Rattle.serving.specs.NextEpoch.{IsNextFile, IsNextStore, answers_in}
use Rattle.serving.specs.Requests.{LetsGo}
use Rattle.serving.specs.Server.{life_of}

-- what a line is answered that asked for the end, where one did
abbrev pub end_answers : Option Asked → List Answered
end_answers None = []
end_answers (Some asked) = record { tag = asked.tag; answer = Done } ∷ []

-- what is answered at the end: to an extension that waits, and then to a line that asked for the end
abbrev pub last_answers : Option Answered → Option Asked → List Answered
last_answers late ended = answers_in late ++ end_answers ended

-- where what is open doesn't go over, all of it is aborted that isn't prepared; and the file begins anew at the states that have committed then, with what goes over
-- and with what waits to be added, in the next life
pub record EndsEpoch {S : Type 0} (g : Ghosts S) (goes : Bool) (waits : Option Extension) (old new : Durable S) : Type 0 where
  pub store : IsNextStore waits old.prepared.items (closed_by goes old.prepared.items old.store) new.store new.prepared.items
  pub durable : Clean g new.journal → IsNextFile waits old.prepared.items (closed_by goes old.prepared.items old.store) new.store new.prepared.items
      (with_all (written g old.journal) (closings goes old.prepared.items old.store)) (durable g new.journal)
  pub life : Clean g new.journal → life_of new ≡ suc (life_of old)

-- what is open and isn't prepared is aborted, as the file says, and the epoch goes on where the file is opened again
pub record EndsInEpoch {S : Type 0} (g : Ghosts S) (old new : Durable S) : Type 0 where
  pub store : LetsGo (closed_by false old.prepared.items old.store) new.store
  pub prepared : new.prepared ≡ old.prepared
  pub life : new.journal.header ≡ old.journal.header
  pub durable : Clean g new.journal → durable g new.journal ≡ with_all (written g old.journal) (closings false old.prepared.items old.store)

-- as serving ends its epoch ends where the end was asked for or an extension waits, and not where the input has ended
abbrev pub ends_epoch : Option Extension → Option Asked → Bool
ends_epoch None None = false
ends_epoch None (Some asked) = true
ends_epoch (Some e) ended = true

abbrev pub EndsServing : {S : Type 0} (g : Ghosts S) → Option Extension → Option Asked → Durable S → Durable S → Type 0
EndsServing g waits ended old new = MatchBool (ends_epoch waits ended) (EndsEpoch g false waits old new) (EndsInEpoch g old new)

-- ---- a crash

-- the file of a store whose epoch is over, with what happened as it ended, under the header that it had, and with what it knew of keys and of who was prepared
abbrev pub IsEpochOver : {S : Type 0} (g : Ghosts S) → Bool → Durable S → Contents → Type 0
IsEpochOver g goes d c =
    IsStoreOf c (closed_by goes d.prepared.items d.store) × (c.headers ≡ d.journal.header ∷ []) × (c.outcomes ≡ (written g d.journal).outcomes)
    × (c.prepared ≡ (written g d.journal).prepared)

-- one that begins anew from such a file
pub record BeginsAnew {S : Type 0} (g : Ghosts S) (goes : Bool) (waits : Option Extension) (d : Durable S) (c : Contents) : Type 0 where
  pub before : Contents
  pub next : Stored
  pub prepared : List Prepared
  pub over : IsEpochOver g goes d before
  pub is : IsNextFile waits d.prepared.items (closed_by goes d.prepared.items d.store) next prepared before c

-- a crash leaves what it could have left before, or the file of the epoch that is over
abbrev pub LeavesClosed : {S : Type 0} (g : Ghosts S) → Bool → Durable S → Durable S → Type 0
LeavesClosed g goes old new = (db : Trees) → may_leave g new.journal db → (Clean g old.journal × IsFile db × IsEpochOver g goes old (contents_of db)) ⊎ may_leave g old.journal db

-- the same, or one that begins anew from there
abbrev pub LeavesEnd : {S : Type 0} (g : Ghosts S) → Bool → Option Extension → Durable S → Durable S → Type 0
LeavesEnd g goes waits old new = (db : Trees) → may_leave g new.journal db
    → (Clean g old.journal × IsFile db × (IsEpochOver g goes old (contents_of db) ⊎ BeginsAnew g goes waits old (contents_of db))) ⊎ may_leave g old.journal db

-- the file of a store where nothing is open but what is prepared begins anew, or is as before
abbrev pub LeavesNext : {S : Type 0} (g : Ghosts S) → Option Extension → Durable S → Durable S → Type 0
LeavesNext g waits old new = (db : Trees) → may_leave g new.journal db
    → (Clean g old.journal × IsFile db × ((s : Stored) × (ps : List Prepared) × IsNextFile waits old.prepared.items old.store s ps (written g old.journal) (contents_of db))
    × ((written g old.journal).headers ≡ old.journal.header ∷ [])) ⊎ may_leave g old.journal db
