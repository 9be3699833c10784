-- An attempt of one call, all at once.
use Rattle.std.proofs.Common.{◌≡◌, ℕ, ◌+◌, List, [], ◌∷◌, ◌++◌, length, get_or, Option, Some, None, Ok, slice_get, refl, sym, ap, subst, ◌∙◌, inl}
use Rattle.std.specs.Prelude.{Vec}
use Rattle.std.specs.declared.alloc.Global.{Global}
use Rattle.std.proofs.lemmas.Option.{none-some}
use Rattle.type_table.specs.declared.operation.Operation.{Operation}
use Rattle.object_trait.specs.Object.{Object}
use Rattle.serial_order.specs.After.{SummaryAfter, TransactionsInRun, OpensAfter}
use Rattle.serial_order.specs.Laws.{ReplaysJoin}
use Rattle.serial_order.specs.History.{begins}
use Rattle.serial_order.specs.Machine.{IsRun}
use Rattle.serial_order.specs.Replay.{call_at}
use Rattle.serial_order.specs.declared.command.Command.TheVariants as command
use Rattle.object_calls.specs.declared.answer.Answer.TheVariants as answer
use Rattle.store_laws.specs.Stored.{Stored, objects}
use Rattle.store.specs.WholeCalls.{IsTransacted, TransactsNamed, TransactsNumbered}
use Rattle.store.proofs.WholeCalls.{answers-step}
use Rattle.attempts.specs.declared.outcome.Attempt.{Attempt}
use Rattle.attempts.specs.declared.outcome.Attempt.TheVariants.{Done}
use Rattle.attempts.specs.declared.outcome.AttemptCall.{AttemptCall}
use Rattle.attempts.specs.Commands.{CallAt, asked_call, asked_calls, attempt_commands, is_memory_refused_at, commands_replayed}
use Rattle.attempts.specs.Answers.{HasAttemptRoom, IsDoneAttempt, AttemptAnswers}
use Rattle.attempts.specs.Made.{CallsAreMade, HasBegun, AreDone, DoesCalls}
use Rattle.attempts.specs.Numbered.{named_call}
use Rattle.attempts.proofs.Answered.{came}
use Rattle.attempts.proofs.Attempts.{begins-in-room, done-replays, done-answers}
use Rattle.attempts.proofs.Transactions.{committed}
use Rattle.attempts.proofs.Numbered.{named-at}

-- where a call is there its object is
object-there : (at : Option Object) (name : List ℕ) (c : ℕ) → call_at at name ≡ Some c → (o : Object) × (at ≡ Some o)
object-there None name c named = absurd (none-some c named)
object-there (Some o) name c named = (o, refl)

-- there was room for it
enough : (s : Stored) (w x c k : ℕ) (new : Stored) → IsTransacted s w x c k new → HasAttemptRoom s 1
enough s w x c k new did = rw (did.few, did.room) refl

module _ (after : SummaryAfter) (in_run : TransactionsInRun) (opens : OpensAfter) (joins : ReplaysJoin) (s : Stored) (run : IsRun (objects s) s.history) (w : ℕ) where
  transacted-done : (new : Stored) (x c k : ℕ) (name : List ℕ) → call_at (slice_get (objects s) x) name ≡ Some c → IsTransacted s w x c k new → AreDone s w ((x, name) ∷ []) (k ∷ []) new
  transacted-done new x c k name named did =
      let t = begins s.history in
      let room = enough s w x c k new did in
      let its : HasBegun s w t 1 did.begun = begins-in-room after in_run opens s did.begun w run (Ok t) refl (inl did.began) 1 room in
      let same : objects did.begun ≡ objects s = ap objects its.replays in
      let there = object-there (slice_get (objects s) x) name c named in
      let here : slice_get (objects did.begun) x ≡ Some there.0 = ap (λ os. slice_get os x) same ∙ there.1 in
      let called : call_at (slice_get (objects did.begun) x) name ≡ Some c = ap (λ os. call_at (slice_get os x) name) same ∙ named in
      let made : CallsAreMade did.begun w t ((x, name) ∷ []) (k ∷ []) did.called =
      came after did.begun w t (x, name) did.called its.going its.room (Ok (answer.Reply k))
      (answers-step did.begun did.called w t x c there.0 here its.going name called (Ok (answer.Reply k)) did.answers)
      (λ d is. did.answers.2)
      in
      let ends = committed joins did.begun did.called new w t ((x, name) ∷ []) (k ∷ []) made did.commits in
      record {
        answers = done-answers joins s did.begun new w t ((x, name) ∷ []) its (k ∷ []) ends;
        replays = done-replays joins s did.begun new w t ((x, name) ∷ []) its (k ∷ []) ends;
      }

  -- by its name
  pub named-does : (new : Stored) (x : ℕ) (name : List ℕ) (r : Option ℕ) → TransactsNamed s w x name r new → DoesCalls s w ((x, name) ∷ []) r new
  named-does new x name None did = did
  named-does new x name (Some k) did = transacted-done new x did.0 k name did.1 did.2

  -- or its number
  pub numbered-does : (new : Stored) (x c : ℕ) (r : Option ℕ) → TransactsNumbered s w x c r new → DoesCalls s w (named_call (objects s) x c ∷ []) r new
  numbered-does new x c None did = did
  numbered-does new x c (Some k) did =
      subst (λ name. AreDone s w ((x, name) ∷ []) (k ∷ []) new) (sym (named-at (slice_get (objects s) x) did.0 c did.1)) (transacted-done new x c k did.0 did.1 did.2)

-- a list of one call
pub only-asked : (calls : List AttemptCall) (other : AttemptCall) → length calls ≡ 1 → asked_calls calls ≡ asked_call (get_or calls 0 other) ∷ []
only-asked [] other many = absurd cc
only-asked (a ∷ []) other many = refl
only-asked (a ∷ (b ∷ calls)) other many = absurd cc

-- ---- behind the room that was made, which changes nothing

module _ (old mid now : Stored) (w : ℕ) (calls : List CallAt) where
  pub only-replays : (k : ℕ) (ks : Vec Operation Global) → mid ≡ old → AreDone mid w calls (k ∷ []) now
      → now ≡ commands_replayed old (is_memory_refused_at (Done ks)) w (attempt_commands (begins old.history) calls (Done ks))
  only-replays k ks same did = subst (λ (z : Stored). now ≡ commands_replayed z (is_memory_refused_at (Done ks)) w (attempt_commands (begins z.history) calls (Done ks))) same did.replays

  pub only-answers : (k : ℕ) (before : List ℕ) (ks : Vec Operation Global) → mid ≡ old → AreDone mid w calls (k ∷ []) now → before ≡ [] → ks.items ≡ before ++ k ∷ [] → AttemptAnswers old w calls (Done ks) now
  only-answers k before ks same did none pushed =
      subst (λ (z : Stored). AttemptAnswers z w calls (Done ks) now) same
      (subst (λ js. IsDoneAttempt mid w calls js now) (sym (pushed ∙ ap (λ l. l ++ k ∷ []) none)) did.answers)

  -- nor does what isn't done
  pub room-still : (n : ℕ) → mid ≡ old → now ≡ mid → HasAttemptRoom old n → HasAttemptRoom now n
  room-still n same stays room = subst (λ (z : Stored). HasAttemptRoom z n) (sym (stays ∙ same)) room

  module _ (later : Stored) (came_of : Attempt) (same : mid ≡ old) (stays : now ≡ mid) where
    pub replays-still : later ≡ commands_replayed now (is_memory_refused_at came_of) w (attempt_commands (begins now.history) calls came_of)
        → later ≡ commands_replayed old (is_memory_refused_at came_of) w (attempt_commands (begins old.history) calls came_of)
    replays-still = subst (λ (z : Stored). later ≡ commands_replayed z (is_memory_refused_at came_of) w (attempt_commands (begins z.history) calls came_of)) (stays ∙ same)

    pub answers-still : AttemptAnswers now w calls came_of later → AttemptAnswers old w calls came_of later
    answers-still = subst (λ (z : Stored). AttemptAnswers z w calls came_of later) (stays ∙ same)
