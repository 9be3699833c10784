-- What requests for several calls or objects do, and what they are answered.
use Rattle.std.specs.Prelude.{◌≡◌, ℕ, List, [], ◌∷◌, length, map, take, MatchBool, Contains, Option, Some, None, option_map, Result, Ok, Err, slice_get}
use Rattle.type_table.specs.declared.op.Op.{Op}
use Rattle.serial_order.specs.History.{begins, commits}
use Rattle.serial_order.specs.declared.refusal.Refusal.TheVariants.{NoObject}
use Rattle.store_laws.specs.Stored.{Stored, objects}
use Rattle.store.specs.CommittedStates.{IsCommittedState}
use Rattle.store.specs.Peeks.{ComesOfPeek, IsPeeked}
use Rattle.store.specs.declared.refusals.PeekRefusal.{PeekRefusal}
use Rattle.store_text.specs.declared.line.ObjectLine.{ObjectLine}
use Rattle.attempts.specs.declared.outcome.Attempt.{Attempt}
use Rattle.attempts.specs.declared.outcome.Attempt.TheVariants as attempt
use Rattle.attempts.specs.declared.outcome.Ending.{Ending}
use Rattle.attempts.specs.declared.outcome.Ending.TheVariants as ending
use Rattle.attempts.specs.Commands.{CallAt, attempt_commands, is_memory_refused_at, commands_replayed}
use Rattle.attempts.specs.Answers.{AttemptAnswers}
use Rattle.request_text.specs.declared.request.AskedCall.{AskedCall}
use Rattle.request_text.specs.declared.request.ObjectWord.{ObjectWord}
use Rattle.serving.specs.declared.answer_line.AnswerLine.{AnswerLine}
use Rattle.serving.specs.declared.answer_line.Moment.{Moment}
use Rattle.serving.specs.declared.answer_line.AnswerLine.TheVariants.{Draining, Seen, SeenStates, NothingSeen, Unseen, Completed, CompletedOne, BusyAt, NothingAt, RefusedAt, Refused, Nothing}
use Rattle.durable_store.specs.Keys.{op_of_object}
use Rattle.serving.specs.Does.{is_epoch_full}
use Rattle.serving.specs.Names.{KnownNames, known_name}
use Rattle.serving.specs.Means.{Means}

-- one of each list after another, and as many in both
abbrev pub InTurn : {A B : Type 0} → (A → B → Type 0) → List A → List B → Type 0
InTurn P [] [] = Unit {0}
InTurn P (x ∷ xs) (y ∷ ys) = P x y × InTurn P xs ys
InTurn P [] (y ∷ ys) = ⊥
InTurn P (x ∷ xs) [] = ⊥

-- the reply of an operation of the object at x, where one was found
abbrev pub found_reply : Stored → ℕ → Option ℕ → Option (List ℕ)
found_reply s x None = None
found_reply s x (Some k) = option_map (λ (op : Op). op.reply) (op_of_object s x k)

-- ---- a transaction that only reads

-- the moment that a store in this life has come to
abbrev pub moment_of : ℕ → Stored → Moment
moment_of life s = record { life = life; commits = length (commits s.history) }

-- the reply of a call there, if clean at the object that its word says; none where no operation is legal
pub record IsRepliedThere (clean : Type 0) (lines : List ObjectLine) (s : Stored) (call : AskedCall) (reply : Option (List ℕ)) : Type 0 where
  pub x : ℕ
  pub means : Means clean lines call.x x
  pub found : Option ℕ
  pub peeked : IsPeeked s x call.call found
  pub told : reply ≡ found_reply s x found

-- or why it isn't answered
abbrev pub IsAnsweredThere : Type 0 → List ObjectLine → Stored → AskedCall → Result (Option (List ℕ)) PeekRefusal → Type 0
IsAnsweredThere clean lines s call (Ok reply) = IsRepliedThere clean lines s call reply
IsAnsweredThere clean lines s call (Err refusal) = (n : ℕ) × Means clean lines call.x n × ComesOfPeek s n call.call (Err refusal)

-- these calls have these replies
abbrev pub AreSeen : Type 0 → List ObjectLine → Stored → List AskedCall → List (List ℕ) → Type 0
AreSeen clean lines s calls replies = InTurn (λ call reply. IsRepliedThere clean lines s call (Some reply)) calls replies

-- the calls before this place have a reply each, and this one has none
pub record IsFirstWithout (clean : Type 0) (lines : List ObjectLine) (s : Stored) (calls : List AskedCall) (at : ℕ) (why : Result (Option (List ℕ)) PeekRefusal) : Type 0 where
  pub call : AskedCall
  pub there : slice_get calls at ≡ Some call
  pub replies : List (List ℕ)
  pub before : AreSeen clean lines s (take at calls) replies
  pub comes : IsAnsweredThere clean lines s call why

-- a peek: the replies of all calls, at one moment; or the first call without one. It changes nothing
abbrev pub DoesPeek : Type 0 → ℕ → List ObjectLine → Stored → List AskedCall → AnswerLine → Stored → Type 0
DoesPeek clean life lines old calls (Seen moment replies) new = (new ≡ old) × (moment ≡ moment_of life old) × AreSeen clean lines old calls replies.items
DoesPeek clean life lines old calls (NothingSeen at) new = (new ≡ old) × IsFirstWithout clean lines old calls at (Ok None)
DoesPeek clean life lines old calls (Unseen refusal) new = (new ≡ old) × (at : ℕ) × IsFirstWithout clean lines old calls at (Err refusal)
DoesPeek clean life lines old calls answer new = ⊥

-- the committed state of the object that a word says, if clean
abbrev pub IsStateThere : Type 0 → List ObjectLine → Stored → ObjectWord → ℕ → Type 0
IsStateThere clean lines s x state = (n : ℕ) × Means clean lines x n × IsCommittedState s n state

-- committed states: of all objects at one moment; or one of the words says no object. It changes nothing
abbrev pub DoesCommitted : Type 0 → ℕ → List ObjectLine → Stored → List ObjectWord → AnswerLine → Stored → Type 0
DoesCommitted clean life lines old xs (SeenStates moment states) new = (new ≡ old) × (moment ≡ moment_of life old) × InTurn (IsStateThere clean lines old) xs states.items
DoesCommitted clean life lines old xs (Refused NoObject) new = (new ≡ old) × (x : ObjectWord) × Contains xs x × (n : ℕ) × Means clean lines x n × (slice_get (objects old) n ≡ None)
DoesCommitted clean life lines old xs answer new = ⊥

-- ---- a whole transaction

-- the call is at the object that its word says, if clean
abbrev pub IsCallAt : Type 0 → List ObjectLine → AskedCall → CallAt → Type 0
IsCallAt clean lines call at = Means clean lines call.x (at.0) × (at.1 ≡ call.call)

-- the replies of operations, one for each call
abbrev pub replies_of : Stored → List CallAt → List ℕ → List (Option (List ℕ))
replies_of s [] ks = []
replies_of s (call ∷ calls) [] = []
replies_of s (call ∷ calls) (k ∷ ks) = found_reply s (call.0) (Some k) ∷ replies_of s calls ks

-- what is answered where the call at this place ended it
abbrev pub ended_answer : KnownNames → ℕ → Ending → AnswerLine
ended_answer names at (ending.Busy u) = BusyAt at (known_name names u)
ended_answer names at ending.None = NothingAt at
ended_answer names at (ending.Refused refusal) = RefusedAt at refusal

-- of one that is done the replies are told
abbrev pub TellsReplies : List (Option (List ℕ)) → AnswerLine → Type 0
TellsReplies replies (Completed told) = map Some told.items ≡ replies
TellsReplies replies (CompletedOne told) = Some told ∷ [] ≡ replies
TellsReplies replies Nothing = Contains replies None
TellsReplies replies answer = ⊥

-- what is told of what came of it
abbrev pub TellsAttempt : Stored → KnownNames → List CallAt → Attempt → AnswerLine → Type 0
TellsAttempt s names calls (attempt.Done ks) answer = TellsReplies (replies_of s calls ks.items) answer
TellsAttempt s names calls (attempt.Ended at how) answer = answer ≡ ended_answer names at how
TellsAttempt s names calls (attempt.NotBegun refusal) answer = answer ≡ Refused refusal

-- it did this: these calls, in their order, in one transaction that is over
pub record Attempts (clean : Type 0) (names : KnownNames) (lines : List ObjectLine) (old : Stored) (calls : List AskedCall) (answer : AnswerLine) (new : Stored) : Type 0 where
  pub made : List CallAt
  pub are_made : InTurn (IsCallAt clean lines) calls made
  pub came : Attempt
  pub replays : new ≡ commands_replayed old (is_memory_refused_at came) 0 (attempt_commands (begins old.history) made came)
  pub answers : AttemptAnswers old 0 made came new
  pub tells : TellsAttempt new names made came answer

-- a whole transaction, but for an epoch that is full
abbrev pub DoesDo : Type 0 → ℕ → KnownNames → List ObjectLine → Stored → List AskedCall → AnswerLine → Stored → Type 0
DoesDo clean most names lines old calls answer new =
    MatchBool (is_epoch_full most old) ((answer ≡ Draining) × (new ≡ old)) (Attempts clean names lines old calls answer new)
