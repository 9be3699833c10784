-- What was answered under keys is found after a crash, while as many of the last outcomes stay as stay at least.
use Rattle.std.specs.Prelude.{◌≡◌, ℕ, true, List, [], ◌∷◌, ◌++◌, Option, Some, None, Result, Ok, Err}
use Rattle.sqlite_trees.specs.declared.store.Store.{Ghosts}
use Rattle.sqlite_trees.specs.Tree.{Trees}
use Rattle.journal.specs.declared.outcome_row.Outcome.TheVariants.{Committed}
use Rattle.journal.specs.Contents.{Contents, contents_of}
use Rattle.journal.specs.Journal.{may_leave}
use Rattle.journal.specs.Outcomes.{StaysKnown}
use Rattle.durable_store.specs.declared.durable.Durable.{Durable}
use Rattle.durable_store.specs.Keys.{outcome_under}
use Rattle.store_laws.specs.Stored.{Stored}
use Rattle.request_text.specs.declared.fault.RequestFault.{RequestFault}
use Rattle.request_text.specs.declared.request.Request.{Request}
use Rattle.request_text.specs.declared.request.Request.TheVariants as request
use Rattle.request_text.specs.Requests.{asked_by}
use Rattle.serving.specs.declared.answer_line.AnswerLine.{AnswerLine}
use Rattle.serving.specs.declared.answer_line.AnswerLine.TheVariants as answer
use Rattle.serving.specs.declared.answer_line.Answered.{Answered}
use Rattle.serving.specs.declared.extension.Extension.{Extension}
use Rattle.serving.specs.AnswersFound.{IsIt}
use Rattle.serving.specs.Left.{Began, IsFileAfter}
use Rattle.serving.specs.Names.{KnownNames}
use Rattle.serving.specs.Places.{TellsSuch}
use Rattle.serving.specs.Served.{Serves}
use Rattle.serving.specs.Told.{is_lasting}

-- what an answer to a request under a key promises of a file: that the key's transaction is committed, with the replies that were told
abbrev pub Promises : Request → AnswerLine → Contents → Type 0
Promises (request.CommitUnder t key) answer.Committed c = (replies : List ℕ) × (outcome_under c key ≡ Some (Committed replies))
Promises (request.DoUnder key) (answer.Replied replies) c = outcome_under c key ≡ Some (Committed replies)
Promises r a c = Unit {0}

abbrev pub LinePromises : Result Request RequestFault → AnswerLine → Contents → Type 0
LinePromises (Ok r) a c = Promises r a c
LinePromises (Err fault) a c = Unit {0}

-- since serving began this line was done and so answered, and what the answer promises was true of what the file knew then. This is the file after these lines and
-- maybe more, which knows it still, unless since it was kept as many outcomes were as stay at least
pub record KeepsPromise (b : Began) (last : List (List ℕ) → Type 0) (line : List ℕ) (a : Answered) (c : Contents) : Type 0 where
  pub lines : List (List ℕ)
  pub done : List Answered
  pub names : KnownNames
  pub said : Contents
  pub reached : Stored
  pub waits : Option Extension
  pub serves : Serves (Unit {0}) b.most b.file b.names (lines ++ line ∷ []) b.store (done ++ a ∷ []) names said reached None waits
  pub promised : LinePromises (asked_by line).request a.answer said
  pub more : List (List ℕ)
  pub later : List Answered
  pub file : IsFileAfter b last ((lines ++ line ∷ []) ++ more) ((done ++ a ∷ []) ++ later) c
  pub stays : StaysKnown said.outcomes c.outcomes

-- whatever a crash leaves keeps what each answer promised
abbrev pub KeysAreFound : {S : Type 0} (g : Ghosts S) → Began → (List (List ℕ) → Type 0) → List (List ℕ) → List Answered → Durable S → Type 0
KeysAreFound g b last lines answers now =
    (line : List ℕ) (a : Answered) → is_lasting a.answer ≡ true → TellsSuch lines answers (IsIt line a) → (db : Trees) → may_leave g now.journal db → KeepsPromise b last line a (contents_of db)
