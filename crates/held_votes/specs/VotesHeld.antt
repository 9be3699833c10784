-- Votes that were answered are held after a crash: each transaction that was prepared is prepared still, with the same operations, or it was decided.
use Rattle.std.specs.Prelude.{◌≡◌, ◌⊎◌, ◌<◌, ℕ, List, ◌++◌, Option, Some, Ok, Contains}
use Rattle.std.specs.List.{AllByRecursion}
use Rattle.sqlite_trees.specs.declared.store.Store.{Ghosts}
use Rattle.sqlite_trees.specs.Tree.{Trees}
use Rattle.object_trait.specs.declared.event.Event.{Event}
use Rattle.serial_order.specs.History.{begins}
use Rattle.serial_order.specs.Operations.{of, ops}
use Rattle.serial_order.specs.Serial.{surviving_at}
use Rattle.event_text.specs.EventText.{events_of_kinds}
use Rattle.journal.specs.declared.outcome_row.Outcome.{Outcome}
use Rattle.journal.specs.declared.prepared_row.Prepared.{Prepared}
use Rattle.journal.specs.Contents.{Contents, contents_of}
use Rattle.journal.specs.Journal.{Clean, may_leave}
use Rattle.journal.specs.Outcomes.{StaysKnown}
use Rattle.store_laws.specs.Stored.{Stored}
use Rattle.durable_store.specs.declared.durable.Durable.{Durable}
use Rattle.durable_store.specs.Durable.{IsDurable, prepared_in}
use Rattle.durable_store.specs.Keys.{outcome_under}
use Rattle.request_text.specs.declared.request.Asked.{Asked}
use Rattle.request_text.specs.Requests.{asked_by}
use Rattle.request_text.specs.declared.request.Request.TheVariants as request
use Rattle.request_text.specs.declared.request.TransactionName.{TransactionName}
use Rattle.serving.specs.declared.answer_line.AnswerLine.TheVariants.{Voted}
use Rattle.serving.specs.declared.answer_line.Answered.{Answered}
use Rattle.serving.specs.declared.extension.Extension.{Extension}
use Rattle.serving.specs.AnswersFound.{HasMoment, IsIt}
use Rattle.serving.specs.Left.{Began, IsFileAfter, began_at}
use Rattle.serving.specs.Names.{KnownNames, named, number_named}
use Rattle.serving.specs.Places.{TellsSuch}
use Rattle.serving.specs.Served.{Serves}
use Rattle.serving.specs.Whole.{session_of}

-- ---- votes

-- a line asks that this transaction be prepared under a key, until then, and is answered that it is now
abbrev pub AnswersVote : List ℕ → Answered → TransactionName → List ℕ → ℕ → Type 0
AnswersVote line a t key until = ((asked_by line).request ≡ Ok (request.Prepare t key until)) × (a.answer ≡ Voted)

-- ---- what a file has of one

-- the operations of a transaction at an object that survive
abbrev pub operations_at : List Event → ℕ → ℕ → List ℕ
operations_at H number x = ops (of number (surviving_at x H))

-- a file knows what became of the transaction that has this key
abbrev pub IsDecided : Contents → List ℕ → Type 0
IsDecided c key = (how : Outcome) × (outcome_under c key ≡ Some how)

-- at a moment since serving began the file knew it. This is the file after the lines that were done by then and maybe more, which knows it still, unless since it was
-- kept as many outcomes were as stay at least
pub record WasDecided (b : Began) (last : List (List ℕ) → Type 0) (c : Contents) (key : List ℕ) : Type 0 where
  pub lines : List (List ℕ)
  pub answers : List Answered
  pub names : KnownNames
  pub said : Contents
  pub reached : Stored
  pub ended : Option Asked
  pub waits : Option Extension
  pub serves : Serves (Unit {0}) b.most b.file b.names lines b.store answers names said reached ended waits
  pub decided : IsDecided said key
  pub more : List (List ℕ)
  pub later : List Answered
  pub file : IsFileAfter b last (lines ++ more) (answers ++ later) c
  pub stays : StaysKnown said.outcomes c.outcomes

-- a row of those that are prepared and not decided is of this transaction, as was asked
pub record IsItsRow (t : TransactionName) (key : List ℕ) (until : ℕ) (row : Prepared) : Type 0 where
  pub under : row.key ≡ key
  pub given : named row.given.life row.given.number ≡ t
  pub waits : row.until ≡ until

-- it is prepared in a file that goes on from the moment of the answer: what survives of it there is, at each object, what survived then of the transaction that
-- its name said
pub record IsVoteHeld (b : Began) (last : List (List ℕ) → Type 0) (c : Contents) (line : List ℕ) (a : Answered) (t : TransactionName) (key : List ℕ) (until : ℕ) : Type 0 where
  pub row : Prepared
  pub there : Contains (prepared_in c) row
  pub its : IsItsRow t key until row
  pub found : HasMoment b last c line a
  pub number : ℕ
  pub known : number_named found.names t ≡ Some number
  pub works : (x : ℕ) → operations_at (events_of_kinds c.events) row.number x ≡ operations_at found.new.history number x

-- whatever a crash leaves has each vote that was answered: its transaction was decided, or is prepared still
abbrev pub VotesAreHeld : {S : Type 0} (g : Ghosts S) → Began → (List (List ℕ) → Type 0) → List (List ℕ) → List Answered → Durable S → Type 0
VotesAreHeld g b last lines answers now =
    (line : List ℕ) (a : Answered) (t : TransactionName) (key : List ℕ) (until : ℕ) → AnswersVote line a t key until → TellsSuch lines answers (IsIt line a)
    → (db : Trees) → may_leave g now.journal db → WasDecided b last (contents_of db) key ⊎ IsVoteHeld b last (contents_of db) line a t key until

-- ---- where serving began

-- each row of who was prepared was of a transaction that had begun. A row ahead of its transaction, as in a file that no store wrote, could take the place of
-- a key that is voted under before that one begins
abbrev pub RowsHadBegun : Began → Type 0
RowsHadBegun b = AllByRecursion (λ (p : Prepared). p.number < begins b.store.history) b.file.prepared

-- the file of a durable store is so
abbrev pub DurableRowsBegan : {S : Type 0} → Ghosts S → Type 0
DurableRowsBegan {S} g = (d : Durable S) (most : ℕ) → IsDurable g d → Clean g d.journal → RowsHadBegun (began_at g (session_of most d))
