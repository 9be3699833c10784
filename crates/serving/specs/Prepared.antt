-- Transactions that are prepared: what the requests do that are about them.
use Rattle.std.specs.Prelude.{◌≡◌, ℕ, List, [], ◌∷◌, ◌++◌, MatchOption, Option, Some, None, Result, Ok, Err}
use Rattle.serial_order.specs.declared.refusal.Refusal.TheVariants.{NotOpen}
use Rattle.store_laws.specs.Stored.{Stored}
use Rattle.journal.specs.declared.prepared_row.Prepared.{Prepared}
use Rattle.journal.specs.declared.outcome_row.Outcome.TheVariants as outcome
use Rattle.journal.specs.Contents.{Contents}
use Rattle.durable_store.specs.Durable.{kinds}
use Rattle.durable_store.specs.Votes.{Decides, Votes}
use Rattle.durable_store.specs.declared.votes.Decision.{Decision}
use Rattle.durable_store.specs.declared.votes.Decision.TheVariants as decision
use Rattle.durable_store.specs.declared.votes.Vote.{Vote}
use Rattle.durable_store.specs.declared.votes.Vote.TheVariants as vote
use Rattle.durable_store.specs.declared.votes.Verdict.{Verdict}
use Rattle.durable_store.specs.declared.votes.Verdict.TheVariants as verdict
use Rattle.request_text.specs.declared.fault.RequestFault.{RequestFault}
use Rattle.request_text.specs.declared.request.Decision.{Decision as Asked}
use Rattle.request_text.specs.declared.request.Decision.TheVariants as asked
use Rattle.request_text.specs.declared.request.Request.{Request}
use Rattle.request_text.specs.declared.request.Request.TheVariants as request
use Rattle.request_text.specs.declared.request.TransactionName.{TransactionName}
use Rattle.serving.specs.declared.answer_line.AnswerLine.{AnswerLine}
use Rattle.serving.specs.declared.answer_line.AnswerLine.TheVariants.{Decided, IsPrepared, KeyRefused, Refused, Voted, VotedBefore}
use Rattle.serving.specs.declared.answer_line.KeyRefusal.TheVariants as key
use Rattle.serving.specs.Names.{KnownNames, number_named}

-- what a file says, where its history is that of this store
abbrev pub now_says : Contents → Stored → Contents
now_says c s = record c { events = kinds s.history }

-- ---- prepare

-- what is kept of the transaction of this number, which its client names so
abbrev pub prepared_as : TransactionName → ℕ → List ℕ → ℕ → Prepared
prepared_as t number key until = record { key = key; given = record { life = t.life; number = t.number }; number = number; until = until }

abbrev pub vote_answer : Vote → AnswerLine
vote_answer vote.Prepared = Voted
vote_answer vote.Again = VotedBefore
vote_answer vote.NotOpen = Refused NotOpen
vote_answer vote.Otherwise = IsPrepared
vote_answer vote.KeyInUse = KeyRefused key.Prepared
vote_answer (vote.Known (outcome.Committed replies)) = KeyRefused key.Committed
vote_answer (vote.Known outcome.Aborted) = KeyRefused key.Aborted
vote_answer vote.Taken = KeyRefused key.Taken

-- a transaction is prepared under a key, of which the file knows this, if clean; a name that nobody has is of none that is open
abbrev pub DoesPrepare : Type 0 → KnownNames → Contents → Stored → TransactionName → List ℕ → ℕ → AnswerLine → Stored → Type 0
DoesPrepare clean names c old t k until answer new = (new ≡ old) × MatchOption (number_named names t) (answer ≡ Refused NotOpen)
    (λ number. (came : Vote) × (clean → (now : Contents) × Votes old (now_says c old) (prepared_as t number k until) came now) × (answer ≡ vote_answer came))

-- ---- decide

-- what was asked
abbrev pub decision_of : Asked → Decision
decision_of asked.Commit = decision.Commit
decision_of asked.Abort = decision.Abort

abbrev pub verdict_answer : Verdict → AnswerLine
verdict_answer verdict.Decided = Decided
verdict_answer (verdict.Otherwise known) = KeyRefused key.Decided
verdict_answer verdict.Unknown = KeyRefused key.Unknown
verdict_answer verdict.Taken = KeyRefused key.Taken

-- a decision under a key, of which the file knows this, if clean
abbrev pub DoesDecide : Type 0 → Contents → Stored → List ℕ → Decision → AnswerLine → Stored → Type 0
DoesDecide clean c old k d answer new =
    (came : Verdict) × (clean → (now : Contents) × Decides old new (now_says c old) now k d came) × (answer ≡ verdict_answer came)

-- ---- what the file says then

-- the row of the transaction of this number
abbrev pub rows_as : Option ℕ → TransactionName → List ℕ → ℕ → List Prepared
rows_as None t k until = []
rows_as (Some number) t k until = prepared_as t number k until ∷ []

-- with the row of a transaction that is newly prepared
abbrev pub prepared_after : KnownNames → Request → AnswerLine → List Prepared → List Prepared
prepared_after names (request.Prepare t k until) Voted ps = ps ++ rows_as (number_named names t) t k until
prepared_after names r answer ps = ps

abbrev pub prepared_answered : KnownNames → Result Request RequestFault → AnswerLine → List Prepared → List Prepared
prepared_answered names (Ok r) answer ps = prepared_after names r answer ps
prepared_answered names (Err fault) answer ps = ps
