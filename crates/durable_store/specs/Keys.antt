-- Keys of transactions: what a file knows of each, and what is done under one.
use Rattle.std.specs.Prelude.{◌≡◌, ◌⊎◌, ℕ, Bool, true, false, cond, List, [], ◌∷◌, drop, length, option_and_then, slice_get, Option, Some, None, Result, Ok, Err}
use Rattle.std.specs.List.{join_with_byte}
use Rattle.std.specs.Str.{bytes_eq}
use Rattle.type_table.specs.Table.{op_of}
use Rattle.type_table.specs.declared.op.Op.{Op}
use Rattle.object_trait.specs.Object.{Object}
use Rattle.sqlite_trees.specs.declared.store.Store.{Ghosts}
use Rattle.transaction_key.specs.TransactionKey.{key_place}
use Rattle.serial_order.specs.History.{begins}
use Rattle.serial_order.specs.declared.command.Command.TheVariants as command
use Rattle.store_laws.specs.Stored.{Stored, Steps, objects}
use Rattle.attempts.specs.Commands.{CallAt, attempt_commands, commands_replayed, is_memory_refused_at}
use Rattle.attempts.specs.Answers.{AttemptAnswers}
use Rattle.attempts.specs.declared.outcome.Attempt.{Attempt}
use Rattle.attempts.specs.declared.outcome.Attempt.TheVariants as attempt
use Rattle.journal.specs.declared.outcome_row.KeyedOutcome.{KeyedOutcome}
use Rattle.journal.specs.declared.outcome_row.Outcome.{Outcome}
use Rattle.journal.specs.declared.outcome_row.Outcome.TheVariants.{Committed, Aborted}
use Rattle.journal.specs.Contents.{Contents, with_outcome}
use Rattle.journal.specs.Journal.{written}
use Rattle.durable_store.specs.Durable.{prepared_in, with_all}
use Rattle.durable_store.specs.Held.{Unless, first_passing, has_key, has_place}
use Rattle.durable_store.specs.declared.denial.Denial.{Denial}
use Rattle.journal.specs.declared.prepared_row.Prepared.{Prepared}
use Rattle.durable_store.specs.declared.durable.Durable.{Durable}
use Rattle.durable_store.specs.declared.keyed.Keyed.{Keyed}
use Rattle.durable_store.specs.declared.keyed.Keyed.TheVariants.{Done, Undone, Known, Taken}
use Rattle.durable_store.specs.declared.keyed.Keyed.TheVariants as keyed
use Rattle.durable_store.specs.declared.keyed.KeyState.{KeyState}
use Rattle.durable_store.specs.declared.keyed.KeyState.TheVariants as state
use Rattle.durable_store.specs.declared.keyed.Unfinished.{Unfinished}
use Rattle.durable_store.specs.declared.keyed.Unfinished.TheVariants.{Ended, NotBegun}

-- ---- what is known of a key

-- what is kept at a key's place, where it is of this key
abbrev pub outcome_for : List ℕ → Option KeyedOutcome → Option Outcome
outcome_for key None = None
outcome_for key (Some kept) = cond (bytes_eq kept.key key) (Some kept.outcome) None

-- what became of the transaction that has this key
abbrev pub outcome_under : Contents → List ℕ → Option Outcome
outcome_under c key = outcome_for key (c.outcomes.at (key_place key))

-- nothing is kept at its place, and nobody is prepared under a key of that place
abbrev pub IsFree : Contents → List ℕ → Type 0
IsFree c key = (c.outcomes.at (key_place key) ≡ None) × (first_passing (has_place key) (prepared_in c) ≡ None)

-- a transaction is prepared under it
abbrev pub IsPreparedUnder : Contents → List ℕ → Type 0
IsPreparedUnder c key = (p : Prepared) × (first_passing (has_place key) (prepared_in c) ≡ Some p) × (has_key key p ≡ true)

-- its place is another key's: of one that is kept there, or of one under which a transaction is prepared
abbrev pub IsTaken : Contents → List ℕ → Type 0
IsTaken c key =
    ((kept : KeyedOutcome) × (c.outcomes.at (key_place key) ≡ Some kept) × (bytes_eq kept.key key ≡ false))
    ⊎ ((p : Prepared) × (first_passing (has_place key) (prepared_in c) ≡ Some p) × (has_key key p ≡ false))

-- what is known of a key
abbrev pub IsInState : Contents → List ℕ → KeyState → Type 0
IsInState c key state.Free = IsFree c key
IsInState c key (state.Known outcome) = outcome_under c key ≡ Some outcome
IsInState c key state.Prepared = IsPreparedUnder c key
IsInState c key state.Taken = IsTaken c key

-- with an outcome under this key, where there is one
abbrev pub with_key : List ℕ → Option Outcome → Contents → Contents
with_key key None c = c
with_key key (Some outcome) c = with_outcome c (record { key = key; outcome = outcome })

-- ---- work under a key

-- the key was free, or is known, or a transaction is prepared under it, or its place is another's
abbrev pub KnowsKey : {T : Type 0} → Contents → List ℕ → Keyed T → Type 0
KnowsKey c key (Done outcome) = IsFree c key
KnowsKey c key (Undone why) = IsFree c key
KnowsKey c key (Known outcome) = outcome_under c key ≡ Some outcome
KnowsKey c key keyed.Prepared = IsPreparedUnder c key
KnowsKey c key Taken = IsTaken c key

-- what is kept from now on
abbrev pub kept_under : {T : Type 0} → Keyed T → Option Outcome
kept_under (Done outcome) = Some outcome
kept_under came = None

-- what is written grows by the events that the store has made since, and by what is kept
abbrev pub WritesUnder : {S T : Type 0} (g : Ghosts S) → List ℕ → Keyed T → Durable S → Durable S → Type 0
WritesUnder g key came old new = written g new.journal ≡ with_key key (kept_under came) (with_all (written g old.journal) (drop (length old.store.history) new.store.history))

-- ---- a commit

-- the work of transaction t was done before, under the key that it asks for: it is aborted, where it is open and isn't prepared
abbrev pub IsSuperseded : Bool → Stored → ℕ → Outcome → Stored → Type 0
IsSuperseded prepared old t (Committed replies) new = (r : Result (Unit {0}) Denial) × Unless prepared old (λ r. Steps old 0 (command.Abort t) r new) r new
IsSuperseded prepared old t Aborted new = new ≡ old

-- it was done, which has no replies, or denied, as where t is prepared, or was done before; under a key of one that is prepared, or that is another one's,
-- nothing was done
abbrev pub CommitsUnder : Bool → Stored → ℕ → Keyed Denial → Stored → Type 0
CommitsUnder prepared old t (Done outcome) new = Unless prepared old (λ r. Steps old 0 (command.Commit t) r new) (Ok (tt {0})) new × (outcome ≡ Committed [])
CommitsUnder prepared old t (Undone why) new = Unless {T = Unit {0}} prepared old (λ r. Steps old 0 (command.Commit t) r new) (Err why) new
CommitsUnder prepared old t (Known outcome) new = IsSuperseded prepared old t outcome new
CommitsUnder prepared old t came new = new ≡ old

-- ---- a whole transaction

-- what an attempt of these calls does
abbrev pub DoesAttempt : Stored → List CallAt → Attempt → Stored → Type 0
DoesAttempt old calls came new = (new ≡ commands_replayed old (is_memory_refused_at came) 0 (attempt_commands (begins old.history) calls came)) × AttemptAnswers old 0 calls came new

-- operation k of the object at x
abbrev pub op_of_object : Stored → ℕ → ℕ → Option Op
op_of_object s x k = option_and_then (λ (o : Object). op_of o.table k) (slice_get (objects s) x)

-- its reply, and no byte where there is no such operation
abbrev pub reply_word : Option Op → List ℕ
reply_word None = []
reply_word (Some op) = op.reply

-- the replies of operations, one for each call
abbrev pub reply_words : Stored → List CallAt → List ℕ → List (List ℕ)
reply_words s [] ks = []
reply_words s (call ∷ calls) [] = []
reply_words s (call ∷ calls) (k ∷ ks) = reply_word (op_of_object s (call.0) k) ∷ reply_words s calls ks

-- a word, behind a space where it isn't the first
abbrev pub spaced_word : Bool → List ℕ → List ℕ
spaced_word true word = word
spaced_word false word = 32 ∷ word

-- with one space between two
abbrev pub reply_text : Stored → List CallAt → List ℕ → List ℕ
reply_text s calls ks = join_with_byte 32 (reply_words s calls ks)

-- it committed, and these are its replies
abbrev pub IsDoneWith : Stored → List CallAt → Attempt → Outcome → Type 0
IsDoneWith s calls (attempt.Done ks) outcome = outcome ≡ Committed (reply_text s calls ks.items)
IsDoneWith s calls came outcome = ⊥

-- it didn't, for this reason
abbrev pub IsUndoneFor : Attempt → Unfinished → Type 0
IsUndoneFor came (Ended at how) = came ≡ attempt.Ended at how
IsUndoneFor came (NotBegun refusal) = came ≡ attempt.NotBegun refusal

-- it was done, or not; under a key that isn't free nothing was done
abbrev pub AttemptsUnder : Stored → List CallAt → Keyed Unfinished → Stored → Type 0
AttemptsUnder old calls (Done outcome) new = (came : Attempt) × DoesAttempt old calls came new × IsDoneWith new calls came outcome
AttemptsUnder old calls (Undone why) new = (came : Attempt) × DoesAttempt old calls came new × IsUndoneFor came why
AttemptsUnder old calls came new = new ≡ old
