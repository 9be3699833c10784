-- A client that was served from the greeting to the end.
use Rattle.std.specs.Prelude.{◌≡◌, ◌⊎◌, ℕ, false, List, ◌++◌, Option, None}
use Rattle.std.specs.Io.KnownBytes.{Appends, IsAtEnd}
use Rattle.sqlite_trees.specs.declared.store.Store.{Ghosts}
use Rattle.store_laws.specs.Stored.{Stored}
use Rattle.journal.specs.Contents.{Contents}
use Rattle.journal.specs.Journal.{Clean, written}
use Rattle.durable_store.specs.declared.durable.Durable.{Durable}
use Rattle.request_text.specs.declared.request.Asked.{Asked}
use Rattle.serving.specs.declared.answer_line.Answered.{Answered}
use Rattle.serving.specs.declared.extension.Extension.{Extension}
use Rattle.serving.specs.declared.session.Session.{Session}
use Rattle.serving.specs.declared.server.Server.{Server}
use Rattle.serving.specs.EpochEnd.{EndsServing, last_answers}
use Rattle.serving.specs.Epochs.{closed_by}
use Rattle.serving.specs.Group.{AreFirstLines, HasTold}
use Rattle.serving.specs.NextEpoch.{IsNextStore, late_answer}
use Rattle.serving.specs.Prepared.{now_says}
use Rattle.durable_store.specs.Durable.{prepared_in}
use Rattle.journal.specs.declared.prepared_row.Prepared.{Prepared}
use Rattle.serving.specs.Served.{Serves}
use Rattle.serving.specs.Names.{KnownNames}
use Rattle.serving.specs.Server.{life_of, first_names}
use Rattle.serving.specs.Told.{AppendsPart, answers_text, greeting}

-- a store that nobody has asked anything yet
abbrev pub session_of : {S : Type 0} → ℕ → Durable S → Session S
session_of most d = record { store = d; names = first_names d; most_events = most; waiting = None }

-- a client was greeted, and got the answers to its lines; what was open then is aborted, the file begins anew, with what waited to be added, and
-- that and a line that asked for the end were answered after that
pub record ServesClient {S : Type 0} (g : Ghosts S) (most : ℕ) (began : Durable S) (given taken : Option (List ℕ)) (now : Durable S) (given_now taken_now : Option (List ℕ)) : Type 0 where
  pub served : Server S
  pub greeted : Option (List ℕ)
  pub answered : Option (List ℕ)
  pub greets : Appends taken greeted (greeting (life_of began))
  pub tells : HasTold g (session_of most began) given greeted served given_now answered
  pub asked : served.end ≡ None → IsAtEnd given_now
  pub renews : EndsServing g served.session.waiting served.end served.session.store now
  pub clean : Clean g now.journal → Clean g served.session.store.journal
  pub ends : Appends answered taken_now (answers_text (last_answers (late_answer served.session.waiting served.session.store.store) served.end))

-- serving stopped: its client got a beginning of the greeting and of the answers to the first lines of its input; or the file had begun anew,
-- and it got all of these and a beginning of what is answered at the end
pub record StopsServing {S : Type 0} (g : Ghosts S) (most : ℕ) (began : Durable S) (given taken : Option (List ℕ)) (now : Durable S) (taken_now : Option (List ℕ)) : Type 0 where
  pub lines : List (List ℕ)
  pub read : AreFirstLines given lines
  pub answers : List Answered
  pub names : KnownNames
  pub reached : Stored
  pub said : Contents
  pub ended : Option Asked
  pub waits : Option Extension
  pub serves : Serves (Clean g now.journal) most (written g began.journal) (first_names began) lines began.store answers names said reached ended waits
  pub told : AppendsPart taken taken_now (greeting (life_of began) ++ answers_text answers)
      ⊎ ((ps : List Prepared) × (Clean g now.journal → ps ≡ prepared_in (now_says said reached)) × IsNextStore waits ps (closed_by false ps reached) now.store now.prepared.items × AppendsPart taken taken_now ((greeting (life_of began) ++ answers_text answers) ++ answers_text (last_answers (late_answer waits reached) ended)))
