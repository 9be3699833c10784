-- Answers that no crash takes away are found after one: the moment at which a line was answered is in the file, and with it whatever the answer says.
use Rattle.std.specs.Prelude.{◌≡◌, ℕ, suc, ◌≤◌, Bool, true, false, List, ◌++◌, Option, Ok, Contains}
use Rattle.sqlite_trees.specs.declared.store.Store.{Ghosts}
use Rattle.sqlite_trees.specs.Tree.{Trees}
use Rattle.object_trait.specs.declared.event.EventKind.{EventKind}
use Rattle.object_trait.specs.declared.event.EventKind.TheVariants.{Commit}
use Rattle.serial_order.specs.History.{begins}
use Rattle.store_laws.specs.Stored.{Stored}
use Rattle.journal.specs.Contents.{Contents, contents_of}
use Rattle.journal.specs.Journal.{may_leave}
use Rattle.durable_store.specs.declared.durable.Durable.{Durable}
use Rattle.durable_store.specs.Durable.{kinds}
use Rattle.request_text.specs.Requests.{asked_by, calls_asked}
use Rattle.request_text.specs.declared.request.Request.TheVariants as request
use Rattle.serving.specs.declared.answer_line.AnswerLine.{AnswerLine}
use Rattle.serving.specs.declared.answer_line.AnswerLine.TheVariants.{Completed, CompletedOne}
use Rattle.serving.specs.declared.answer_line.Answered.{Answered}
use Rattle.serving.specs.declared.extension.Extension.{Extension}
use Rattle.serving.specs.Archives.{life_in}
use Rattle.serving.specs.Left.{Began, IsFileAfter}
use Rattle.serving.specs.Names.{KnownNames}
use Rattle.serving.specs.NextEpoch.{IsNextStore}
use Rattle.journal.specs.declared.prepared_row.Prepared.{Prepared}
use Rattle.serving.specs.Places.{TellsSuch}
use Rattle.serving.specs.Served.{IsAnswered}
use Rattle.serving.specs.Several.{Attempts}
use Rattle.serving.specs.Told.{is_lasting}

-- ---- any answer that no crash takes away

-- it is this line with this answer
abbrev pub IsIt : List ℕ → Answered → List ℕ → Answered → Type 0
IsIt line a l x = (l ≡ line) × (x ≡ a)

-- from a store in a life another goes on: in the same life its events begin with the events of that one; in a later one its history began at the
-- states that had committed at the store of the life before, and that one goes on so
pub data GoesFurther (born : ℕ) (moment : Stored) : ℕ → Stored → Type 0 where
  same : (now : Stored) (more : List EventKind) → kinds now.history ≡ kinds moment.history ++ more → GoesFurther born moment born now
  epoch : (life : ℕ) (waits : Option Extension) (ps next : List Prepared) (old first now : Stored) → GoesFurther born moment life old → IsNextStore waits ps old first next → now.types ≡ first.types → GoesFurther born moment (suc life) now

-- a file goes on from the moment at which the line was answered so: it is the file after lines among which is this one; while it is in that moment's
-- life, its events begin with all that had happened by then
pub record HasMoment (b : Began) (last : List (List ℕ) → Type 0) (c : Contents) (line : List ℕ) (a : Answered) : Type 0 where
  pub lines : List (List ℕ)
  pub done : List Answered
  pub file : IsFileAfter b last lines done c
  pub tells : TellsSuch lines done (IsIt line a)
  pub most : ℕ
  pub names : KnownNames
  pub said : Contents
  pub old : Stored
  pub new : Stored
  pub answered : IsAnswered (Unit {0}) most names said line old a new
  pub goes_on : GoesFurther names.life new file.names.life file.reached
  pub since : names.life ≤ life_in c.headers
  pub happened : names.life ≡ life_in c.headers → (more : List EventKind) × (c.events ≡ kinds new.history ++ more)

-- whatever a crash leaves goes on from each of them
abbrev pub AnswersAreFound : {S : Type 0} (g : Ghosts S) → Began → (List (List ℕ) → Type 0) → List (List ℕ) → List Answered → Durable S → Type 0
AnswersAreFound g b last lines answers now =
    (line : List ℕ) (a : Answered) → is_lasting a.answer ≡ true → TellsSuch lines answers (IsIt line a) → (db : Trees) → may_leave g now.journal db → HasMoment b last (contents_of db) line a

-- ---- that of a whole transaction

abbrev pub is_completed : AnswerLine → Bool
is_completed (Completed replies) = true
is_completed (CompletedOne reply) = true
is_completed answer = false

-- a line asks for a whole transaction, and is answered that it is done
abbrev pub AnswersDone : List ℕ → Answered → Type 0
AnswersDone line a = ((asked_by line).request ≡ Ok request.Do) × (is_completed a.answer ≡ true)

-- a file goes on from the moment at which it was: the line's calls were made and so replied to, and its commit is one of the events by then
pub record HasTransaction (b : Began) (last : List (List ℕ) → Type 0) (c : Contents) (line : List ℕ) (a : Answered) : Type 0 where
  pub found : HasMoment b last c line a
  pub did : Attempts (Unit {0}) found.names found.said.objects found.old (calls_asked line) a.answer found.new
  pub committed : Contains (kinds found.new.history) (Commit (begins found.old.history))

-- whatever a crash leaves has each whole transaction that was answered as done
abbrev pub TransactionsAreFound : {S : Type 0} (g : Ghosts S) → Began → (List (List ℕ) → Type 0) → List (List ℕ) → List Answered → Durable S → Type 0
TransactionsAreFound g b last lines answers now =
    (line : List ℕ) (a : Answered) → AnswersDone line a → TellsSuch lines answers (IsIt line a) → (db : Trees) → may_leave g now.journal db → HasTransaction b last (contents_of db) line a
