-- What a request does to a store, and what it is answered.
use Rattle.std.specs.Prelude.{◌≡◌, ℕ, Bool, nat_le, List, length, MatchBool, MatchOption, Option, Some, None, slice_get, Result, Ok, Err}
use Rattle.type_table.specs.declared.op.Op.{Op}
use Rattle.object_calls.specs.declared.answer.Answer as calls
use Rattle.object_calls.specs.declared.answer.Answer.TheVariants as call
use Rattle.serial_order.specs.declared.command.Command.TheVariants as command
use Rattle.serial_order.specs.declared.refusal.Refusal.{Refusal}
use Rattle.serial_order.specs.declared.refusal.Refusal.TheVariants.{NoObject, NotOpen}
use Rattle.store_laws.specs.Stored.{MayStep, Steps, Stored, objects}
use Rattle.store.specs.Calls.{Would}
use Rattle.store.specs.KeptState.{IsKeptState}
use Rattle.serial_order.specs.History.{begins, summary}
use Rattle.serial_order.specs.Replay.{open_count}
use Rattle.durable_store.specs.Keys.{op_of_object}
use Rattle.journal.specs.declared.prepared_row.Prepared.{Prepared}
use Rattle.serial_order.specs.Operations.{is_among}
use Rattle.durable_store.specs.Held.{Unless, as_denied, prepared_numbers}
use Rattle.durable_store.specs.declared.denial.Denial.{Denial}
use Rattle.durable_store.specs.declared.denial.Denial.TheVariants as denied
use Rattle.request_text.specs.declared.request.TransactionName.{TransactionName}
use Rattle.serving.specs.declared.answer_line.AnswerLine.{AnswerLine}
use Rattle.serving.specs.declared.answer_line.AnswerLine.TheVariants.{Done, Committed, Begun, State, Reply, Busy, Draining, IsPrepared, Nothing, Counts, Refused}
use Rattle.serving.specs.Names.{KnownNames, known_name, named, number_named}

-- what a begin is answered
abbrev pub begin_answer : ℕ → Result ℕ Refusal → AnswerLine
begin_answer life (Ok number) = Begun (named life number)
begin_answer life (Err refusal) = Refused refusal

-- why a command of a transaction isn't done
abbrev pub denied_answer : Denial → AnswerLine
denied_answer denied.Prepared = IsPrepared
denied_answer (denied.Refused refusal) = Refused refusal

-- what a request is answered that is done or denied
abbrev pub done_or : AnswerLine → Result (Unit {0}) Denial → AnswerLine
done_or answer (Ok u) = answer
done_or answer (Err why) = denied_answer why

-- the reply of an operation
abbrev pub reply_of : Option Op → AnswerLine
reply_of (Some op) = Reply op.reply
reply_of None = Nothing

-- what a call at x is answered
abbrev pub call_answer : Stored → KnownNames → ℕ → Result calls.Answer Denial → AnswerLine
call_answer s names x (Ok (call.Reply k)) = reply_of (op_of_object s x k)
call_answer s names x (Ok (call.Busy u)) = Busy (known_name names u)
call_answer s names x (Ok call.None) = Nothing
call_answer s names x (Err why) = denied_answer why

-- of the transaction of this name that much, by its number; a name that nobody has is of none that is open
abbrev pub OfNamed : KnownNames → TransactionName → Stored → Stored → AnswerLine → (ℕ → Type 0) → Type 0
OfNamed names t old new answer Does = MatchOption (number_named names t) ((answer ≡ Refused NotOpen) × (new ≡ old)) Does

-- an epoch with this many events is full: it goes on until those that are open have ended
abbrev pub is_epoch_full : ℕ → Stored → Bool
is_epoch_full most s = nat_le most (length s.history)

-- ---- requests

-- a transaction begins, but for an epoch that is full
abbrev pub DoesBegin : ℕ → ℕ → Stored → AnswerLine → Stored → Type 0
DoesBegin most life old answer new =
    MatchBool (is_epoch_full most old) ((answer ≡ Draining) × (new ≡ old)) ((r : Result ℕ Refusal) × MayStep old 0 command.Begin r new × (answer ≡ begin_answer life r))

-- what the store's own command does of transaction n, unless it is prepared
abbrev pub UnlessPrepared : {T : Type 0} → List Prepared → ℕ → Stored → (Result T Refusal → Type 0) → Result T Denial → Stored → Type 0
UnlessPrepared ps n old Does r new = Unless (is_among (prepared_numbers ps) n) old Does r new

abbrev pub DoesCall : KnownNames → List Prepared → Stored → TransactionName → ℕ → List ℕ → AnswerLine → Stored → Type 0
DoesCall names ps old t x name answer new =
    OfNamed names t old new answer (λ n. (r : Result calls.Answer Denial) × UnlessPrepared ps n old (λ r. MayStep old 0 (command.Call n x name) r new) r new
    × (answer ≡ call_answer new names x r))

abbrev pub DoesWould : KnownNames → List Prepared → Stored → TransactionName → ℕ → List ℕ → AnswerLine → Stored → Type 0
DoesWould names ps old t x name answer new =
    OfNamed names t old new answer (λ n. (new ≡ old) × MatchBool (is_among (prepared_numbers ps) n) (answer ≡ IsPrepared)
    ((r : Result calls.Answer Refusal) × Would old n x name r × (answer ≡ call_answer old names x (as_denied r))))

abbrev pub DoesCommit : KnownNames → List Prepared → Stored → TransactionName → AnswerLine → Stored → Type 0
DoesCommit names ps old t answer new =
    OfNamed names t old new answer (λ n. (r : Result (Unit {0}) Denial) × UnlessPrepared ps n old (λ r. Steps old 0 (command.Commit n) r new) r new × (answer ≡ done_or Committed r))

abbrev pub DoesAbort : KnownNames → List Prepared → Stored → TransactionName → AnswerLine → Stored → Type 0
DoesAbort names ps old t answer new =
    OfNamed names t old new answer (λ n. (r : Result (Unit {0}) Denial) × UnlessPrepared ps n old (λ r. Steps old 0 (command.Abort n) r new) r new × (answer ≡ done_or Done r))

abbrev pub DoesRollback : KnownNames → List Prepared → Stored → TransactionName → ℕ → AnswerLine → Stored → Type 0
DoesRollback names ps old t count answer new =
    OfNamed names t old new answer (λ n. (r : Result (Unit {0}) Denial) × UnlessPrepared ps n old (λ r. MayStep old 0 (command.Rollback n count) r new) r new × (answer ≡ done_or Done r))

-- the kept state, or that there is no such object
abbrev pub DoesKept : Stored → ℕ → AnswerLine → Stored → Type 0
DoesKept old x answer new =
    (new ≡ old) × MatchOption (slice_get (objects old) x) (answer ≡ Refused NoObject) (λ o. (state : ℕ) × IsKeptState old x state × (answer ≡ State state))

-- how many events, transactions that have begun, open ones, and prepared ones
abbrev pub DoesStats : List Prepared → Stored → AnswerLine → Stored → Type 0
DoesStats ps old answer new = (answer ≡ Counts (length old.history) (begins old.history) (open_count (summary old.history)) (length ps)) × (new ≡ old)
