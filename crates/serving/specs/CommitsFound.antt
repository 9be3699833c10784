-- Commits that were answered are found after a crash.
use Rattle.std.specs.Prelude.{◌≡◌, ℕ, suc, ◌≤◌, List, Option, Some, Ok, Contains}
use Rattle.sqlite_trees.specs.declared.store.Store.{Ghosts}
use Rattle.sqlite_trees.specs.Tree.{Trees}
use Rattle.object_trait.specs.declared.event.EventKind.TheVariants as kind
use Rattle.store_laws.specs.Stored.{Stored}
use Rattle.journal.specs.Contents.{Contents, contents_of}
use Rattle.journal.specs.Journal.{may_leave}
use Rattle.durable_store.specs.declared.durable.Durable.{Durable}
use Rattle.durable_store.specs.Durable.{kinds}
use Rattle.request_text.specs.Requests.{asked_by}
use Rattle.request_text.specs.declared.request.Request.TheVariants as request
use Rattle.request_text.specs.declared.request.TransactionName.{TransactionName}
use Rattle.serving.specs.declared.answer_line.AnswerLine.TheVariants.{Committed}
use Rattle.serving.specs.declared.answer_line.Answered.{Answered}
use Rattle.serving.specs.declared.extension.Extension.{Extension}
use Rattle.serving.specs.Archives.{life_in}
use Rattle.serving.specs.Left.{Began, IsFileAfter}
use Rattle.serving.specs.Names.{KnownNames, number_named}
use Rattle.serving.specs.NextEpoch.{IsNextStore}
use Rattle.journal.specs.declared.prepared_row.Prepared.{Prepared}
use Rattle.serving.specs.Places.{TellsSuch}
use Rattle.serving.specs.Served.{KnewNames}

-- a line asks that this transaction commit, and is answered that it has
abbrev pub AnswersCommit : List ℕ → Answered → TransactionName → Type 0
AnswersCommit line a t = ((asked_by line).request ≡ Ok (request.Commit t)) × (a.answer ≡ Committed)

-- one of these lines does, with the answer at its place among those that aren't late
abbrev pub TellsCommit : List (List ℕ) → List Answered → TransactionName → Type 0
TellsCommit lines answers t = TellsSuch lines answers (λ line a. AnswersCommit line a t)

-- a store in a life has the commit that transaction n made in that life: it is one of the events; in a later one the history began at the
-- states that had committed at the store of the life before, and that one had it
pub data KeepsCommit (made n : ℕ) : ℕ → Stored → Type 0 where
  event : (now : Stored) → Contains (kinds now.history) (kind.Commit n) → KeepsCommit made n made now
  epoch : (life : ℕ) (waits : Option Extension) (ps next : List Prepared) (old first now : Stored) → KeepsCommit made n life old → IsNextStore waits ps old first next → now.types ≡ first.types → KeepsCommit made n (suc life) now

-- a file has it: it is the file after lines among which is the commit. The transaction had this number in the life in which it committed, by the names that its
-- client knew then: its own number where it began in that life. While the file is in that life, the commit is among its events
pub record HasCommit (b : Began) (last : List (List ℕ) → Type 0) (c : Contents) (t : TransactionName) : Type 0 where
  pub lines : List (List ℕ)
  pub done : List Answered
  pub file : IsFileAfter b last lines done c
  pub tells : TellsCommit lines done t
  pub names : KnownNames
  pub knew : KnewNames (Unit {0}) b.most b.file b.names b.store names
  pub number : ℕ
  pub known : number_named names t ≡ Some number
  pub keeps : KeepsCommit names.life number file.names.life file.reached
  pub since : names.life ≤ life_in c.headers
  pub happened : names.life ≡ life_in c.headers → Contains c.events (kind.Commit number)

-- whatever a crash leaves has each commit that was answered
abbrev pub CommitsAreFound : {S : Type 0} (g : Ghosts S) → Began → (List (List ℕ) → Type 0) → List (List ℕ) → List Answered → Durable S → Type 0
CommitsAreFound g b last lines answers now =
    (t : TransactionName) → TellsCommit lines answers t → (db : Trees) → may_leave g now.journal db → HasCommit b last (contents_of db) t
