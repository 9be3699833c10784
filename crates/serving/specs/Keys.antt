-- What requests under keys do, and what a file knows of the keys then.
use Rattle.std.specs.Prelude.{◌≡◌, ℕ, List, [], MatchBool, MatchOption, Option, Some, None, Result, Ok, Err}
use Rattle.serial_order.specs.declared.refusal.Refusal.TheVariants.{NotOpen}
use Rattle.journal.specs.declared.prepared_row.Prepared.{Prepared}
use Rattle.serial_order.specs.Operations.{is_among}
use Rattle.durable_store.specs.Held.{prepared_numbers}
use Rattle.durable_store.specs.Votes.{decided_outcome}
use Rattle.durable_store.specs.declared.denial.Denial.{Denial}
use Rattle.serving.specs.Names.{KnownNames, number_named}
use Rattle.serving.specs.Prepared.{decision_of, now_says, prepared_answered}
use Rattle.store_laws.specs.Stored.{Stored}
use Rattle.attempts.specs.Commands.{CallAt}
use Rattle.transaction_key.specs.TransactionKey.{key_place}
use Rattle.journal.specs.declared.outcome_row.KeyedOutcome.{KeyedOutcome}
use Rattle.journal.specs.declared.outcome_row.Outcome.{Outcome}
use Rattle.journal.specs.declared.outcome_row.Outcome.TheVariants as outcome
use Rattle.journal.specs.Outcomes.{Outcomes, outcomes_with}
use Rattle.journal.specs.Contents.{Contents}
use Rattle.durable_store.specs.Keys.{AttemptsUnder, CommitsUnder, IsInState, KnowsKey}
use Rattle.durable_store.specs.declared.keyed.Keyed.{Keyed}
use Rattle.durable_store.specs.declared.keyed.Keyed.TheVariants as keyed
use Rattle.durable_store.specs.declared.keyed.KeyState.{KeyState}
use Rattle.durable_store.specs.declared.keyed.KeyState.TheVariants as state
use Rattle.durable_store.specs.declared.keyed.Unfinished.{Unfinished}
use Rattle.durable_store.specs.declared.keyed.Unfinished.TheVariants as unfinished
use Rattle.request_text.specs.declared.fault.RequestFault.{RequestFault}
use Rattle.request_text.specs.declared.request.AskedCall.{AskedCall}
use Rattle.request_text.specs.declared.request.Request.{Request}
use Rattle.request_text.specs.declared.request.Request.TheVariants as request
use Rattle.request_text.specs.declared.request.TransactionName.{TransactionName}
use Rattle.request_text.specs.Requests.{asked_by}
use Rattle.serving.specs.declared.answer_line.AnswerLine.{AnswerLine}
use Rattle.serving.specs.declared.answer_line.AnswerLine.TheVariants.{Committed, Decided, Draining, KeyRefused, OutcomeIs, OutcomePrepared, Refused, Replied}
use Rattle.serving.specs.declared.answer_line.KeyRefusal.TheVariants.{Aborted, Taken}
use Rattle.serving.specs.declared.answer_line.KeyRefusal.TheVariants as why
use Rattle.serving.specs.Does.{denied_answer, is_epoch_full}
use Rattle.serving.specs.Several.{InTurn, IsCallAt, ended_answer}

-- ---- a commit

-- what a commit is answered under a key whose transaction came to this
abbrev pub committed_before : Outcome → AnswerLine
committed_before (outcome.Committed replies) = Committed
committed_before outcome.Aborted = KeyRefused Aborted

-- what came of it under a key
abbrev pub commit_under_answer : Keyed Denial → AnswerLine
commit_under_answer (keyed.Done kept) = Committed
commit_under_answer (keyed.Undone denial) = denied_answer denial
commit_under_answer (keyed.Known known) = committed_before known
commit_under_answer keyed.Prepared = KeyRefused why.Prepared
commit_under_answer keyed.Taken = KeyRefused Taken

-- of a name that nobody has
abbrev pub unknown_under : KeyState → AnswerLine
unknown_under state.Free = Refused NotOpen
unknown_under (state.Known known) = committed_before known
unknown_under state.Prepared = KeyRefused why.Prepared
unknown_under state.Taken = KeyRefused Taken

-- a commit of a transaction under a key, of which the file knows this, if clean; of a name that nobody has it tells what is known of the key
abbrev pub DoesCommitUnder : Type 0 → KnownNames → Contents → List Prepared → Stored → TransactionName → List ℕ → AnswerLine → Stored → Type 0
DoesCommitUnder clean names c ps old t key answer new =
    MatchOption (number_named names t)
    ((known : KeyState) × (clean → IsInState (now_says c old) key known) × (answer ≡ unknown_under known) × (new ≡ old))
    (λ n. (came : Keyed Denial) × (clean → KnowsKey (now_says c old) key came) × CommitsUnder (is_among (prepared_numbers ps) n) old n came new × (answer ≡ commit_under_answer came))

-- ---- a whole transaction

-- what one is answered whose key's transaction came to this
abbrev pub done_before : Outcome → AnswerLine
done_before (outcome.Committed replies) = Replied replies
done_before outcome.Aborted = KeyRefused Aborted

-- what came of it under a key
abbrev pub do_under_answer : KnownNames → Keyed Unfinished → AnswerLine
do_under_answer names (keyed.Done kept) = done_before kept
do_under_answer names (keyed.Undone (unfinished.Ended at how)) = ended_answer names at how
do_under_answer names (keyed.Undone (unfinished.NotBegun refusal)) = Refused refusal
do_under_answer names (keyed.Known known) = done_before known
do_under_answer names keyed.Prepared = KeyRefused why.Prepared
do_under_answer names keyed.Taken = KeyRefused Taken

-- where no transaction begins
abbrev pub draining_under : KeyState → AnswerLine
draining_under state.Free = Draining
draining_under (state.Known known) = done_before known
draining_under state.Prepared = KeyRefused why.Prepared
draining_under state.Taken = KeyRefused Taken

-- a whole transaction of these calls under a key, of which the file knows this, if clean
abbrev pub DoesDoUnder : Type 0 → ℕ → KnownNames → Contents → Stored → List AskedCall → List ℕ → AnswerLine → Stored → Type 0
DoesDoUnder clean most names c old calls key answer new =
    MatchBool (is_epoch_full most old) ((known : KeyState) × (clean → IsInState (now_says c old) key known) × (answer ≡ draining_under known) × (new ≡ old))
    ((made : List CallAt) × InTurn (IsCallAt clean c.objects) calls made × (came : Keyed Unfinished) × (clean → KnowsKey (now_says c old) key came) × AttemptsUnder old made came new
    × (answer ≡ do_under_answer names came))

-- ---- what became of one

abbrev pub outcome_answer : KeyState → AnswerLine
outcome_answer state.Free = OutcomeIs None
outcome_answer (state.Known known) = OutcomeIs (Some known)
outcome_answer state.Prepared = OutcomePrepared
outcome_answer state.Taken = OutcomeIs None

abbrev pub DoesOutcome : Type 0 → Contents → Stored → List ℕ → AnswerLine → Stored → Type 0
DoesOutcome clean c old key answer new = (known : KeyState) × (clean → IsInState (now_says c old) key known) × (answer ≡ outcome_answer known) × (new ≡ old)

-- ---- what the file knows then

-- what an answer to a request under a key says of its transaction: it is committed, or was decided so
abbrev pub kept_by : Request → AnswerLine → Option KeyedOutcome
kept_by (request.CommitUnder t key) Committed = Some (record { key = key; outcome = outcome.Committed [] })
kept_by (request.DoUnder key) (Replied replies) = Some (record { key = key; outcome = outcome.Committed replies })
kept_by (request.Decide key d) Decided = Some (record { key = key; outcome = decided_outcome (decision_of d) })
kept_by r answer = None

abbrev pub kept_answered : Result Request RequestFault → AnswerLine → Option KeyedOutcome
kept_answered (Ok r) answer = kept_by r answer
kept_answered (Err fault) answer = None

-- it is kept where nothing was at its key's place
abbrev pub outcomes_where_free : Option KeyedOutcome → KeyedOutcome → Outcomes → Outcomes
outcomes_where_free None o outcomes = outcomes_with outcomes o
outcomes_where_free (Some kept) o outcomes = outcomes

abbrev pub outcomes_after : Option KeyedOutcome → Outcomes → Outcomes
outcomes_after None outcomes = outcomes
outcomes_after (Some o) outcomes = outcomes_where_free (outcomes.at (key_place o.key)) o outcomes

-- what a file says after a line that was so answered, by these names
abbrev pub said_after : KnownNames → Contents → List ℕ → AnswerLine → Contents
said_after names c line answer = record c {
  outcomes = outcomes_after (kept_answered (asked_by line).request answer) c.outcomes;
  prepared = prepared_answered names (asked_by line).request answer c.prepared;
}
