-- An attempt, from its begin.
use Rattle.std.proofs.Common.{◌≡◌, ℕ, suc, ◌+◌, ◌<◌, Bool, true, false, ◌&&◌, ◌||◌, ◌==◌, List, [], ◌∷◌, ◌++◌, length, map, take, Option, None, is_some, Result, Ok, Err, refl, sym, ap, subst, ◌∙◌, inl, inr, arith}
use Rattle.std.specs.Prelude.{if◌then◌else◌, IfOk, IfErr}
use Rattle.std.proofs.lemmas.Bool.{eq-eqb}
use Rattle.std.proofs.lemmas.Bool.Decides.{nat_tests}
use Rattle.std.proofs.lemmas.List.{length-append, length-map}
use Rattle.std.proofs.lemmas.Option.{none-some}
use Rattle.object_trait.specs.declared.event.Event.{Event}
use Rattle.object_trait.specs.declared.event.EventKind.TheVariants.{Begin, Commit, Abort}
use Rattle.serial_order.specs.After.{SummaryAfter, TransactionsInRun, OpensAfter}
use Rattle.serial_order.specs.Laws.{ReplaysJoin}
use Rattle.serial_order.specs.Machine.{IsRun}
use Rattle.serial_order.specs.History.{begins, summary, is_open}
use Rattle.serial_order.specs.Replay.{open_count, is_history_full}
use Rattle.serial_order.specs.declared.command.Command.TheVariants as command
use Rattle.serial_order.specs.declared.refusal.Refusal.{Refusal}
use Rattle.serial_order.specs.declared.refusal.Refusal.TheVariants.{NoMemory}
use Rattle.store_laws.specs.Stored.{Stored, objects, refusal_of, stored_after, MayStep}
use Rattle.attempts.specs.declared.outcome.Attempt.{Attempt}
use Rattle.attempts.specs.declared.outcome.AttemptCall.{AttemptCall}
use Rattle.attempts.specs.declared.outcome.Ending.{Ending}
use Rattle.attempts.specs.declared.outcome.Attempt.TheVariants.{Done, Ended, NotBegun}
use Rattle.attempts.specs.Commands.{CallAt, asked_call, asked_calls, call_command, begin_and_calls, attempt_commands, is_memory_refused_at, is_for_memory, with_kinds, commands_replayed}
use Rattle.attempts.specs.Answers.{HasAttemptRoom, IsNotBegunFor, operation_events, EndsSo, IsDoneAttempt, IsEndedAttempt, AttemptAnswers}
use Rattle.attempts.specs.Made.{never, HasBegun, TransactionCommits, TransactionAborts, Transacts}
use Rattle.attempts.proofs.Replays.{replayed-more}
use Rattle.attempts.proofs.Events.{events-more}
use Rattle.attempts.proofs.Refusals.{room-parts, begins-unrefused}

-- ---- the begin

-- a begin that isn't refused appends its event
begin-appends : (s : Stored) (w : ℕ) → refusal_of s command.Begin ≡ None → stored_after s w command.Begin ≡ with_kinds s w (Begin (begins s.history) ∷ [])
begin-appends s w accepted =
    ap (λ (o : Option Refusal). record s { history = if is_some o then s.history else s.history ++ (record { worker = w; kind = Begin (begins s.history) }) ∷ [] }) accepted

module _ (after : SummaryAfter) (in_run : TransactionsInRun) (opens : OpensAfter) (old : Stored) (run : IsRun (objects old) old.history) (w t calls : ℕ) (begun : Stored)
    (room : HasAttemptRoom old calls) (number : t ≡ begins old.history) where
  -- it opens its transaction
  opened : begun ≡ with_kinds old w (Begin (begins old.history) ∷ []) → (is_open (summary begun.history) (begins old.history) ≡ true) × (open_count (summary begun.history) ≡ suc (open_count (summary old.history)))
  opened is =
      let e : Event = record { worker = w; kind = Begin (begins old.history) } in
      let seen = ap (λ (z : Stored). summary z.history) is ∙ after old.history e in
      let both = opens (objects old) (summary old.history) (Begin (begins old.history)) (in_run (objects old) old.history run) refl in (
        ap (λ S. is_open S (begins old.history)) seen ∙ both.0 (begins old.history)
            ∙ ap (λ b. b || is_open (summary old.history) (begins old.history)) (eq-eqb (begins old.history) (begins old.history) refl),
        ap open_count seen ∙ both.1,
      )

  left : begun ≡ with_kinds old w (Begin (begins old.history) ∷ []) → is_history_full begun.limits begun.history calls ≡ false
  left is =
      let same : begun.limits.events ≡ old.limits.events = ap (λ (z : Stored). z.limits.events) is in
      let longer : length begun.history ≡ length old.history + 1 =
      ap (λ (z : Stored). length z.history) is ∙ length-append old.history ((record { worker = w; kind = Begin (begins old.history) }) ∷ [])
      in
      let more = (opened is).1 in
      let free = (room-parts old calls room).1 in
      grind (arith, nat_tests, same, longer, more, free)

  begun-is : MayStep old w command.Begin (Ok t) begun → HasBegun old w t calls begun
  begun-is (inl steps) =
      let is = steps.1 ∙ begin-appends old w (sym steps.0) in
      record {
        number = number;
        enough = room;
        replays = steps.1;
        events = is ∙ ap (λ u. with_kinds old w (Begin u ∷ [])) (sym number);
        going = ap (λ u. is_open (summary begun.history) u) number ∙ (opened is).0;
        room = left is;
      }
  begun-is (inr memory) = absurd (let never_so : Ok t ≡ Err NoMemory = memory.1 in cc)

-- where there is room it begins
pub begins-in-room : SummaryAfter → TransactionsInRun → OpensAfter → (old begun : Stored) (w : ℕ) → IsRun (objects old) old.history → (r : Result ℕ Refusal)
    → IfOk r (λ t. t ≡ begins old.history) → MayStep old w command.Begin r begun → (calls : ℕ) → HasAttemptRoom old calls → IfOk r (λ t. HasBegun old w t calls begun)
begins-in-room after in_run opens old begun w run (Ok t) number step calls room = begun-is after in_run opens old run w t calls begun room number step
begins-in-room after in_run opens old begun w run (Err r) number step calls room = tt

-- or it is refused for want of memory
pub refused-in-room : (old now : Stored) (w : ℕ) (r : Result ℕ Refusal) → MayStep old w command.Begin r now → (calls : ℕ) → HasAttemptRoom old calls
    → IfErr r (λ why. IsNotBegunFor old calls why × (now ≡ old))
refused-in-room old now w (Ok t) step calls room = tt
refused-in-room old now w (Err r) (inl steps) calls room = absurd (none-some r (sym (begins-unrefused old calls room) ∙ sym steps.0))
refused-in-room old now w (Err r) (inr memory) calls room = (inr (room, cc (memory.1)), memory.2)

-- so where the room was made before
module _ (old mid begun : Stored) (w : ℕ) (same : mid ≡ old) (n : ℕ) (room : HasAttemptRoom old n) where
  pub begins-behind : (t : ℕ) → ((m : ℕ) → HasAttemptRoom mid m → HasBegun mid w t m begun) → HasBegun old w t n begun
  begins-behind t begins = subst (λ (z : Stored). HasBegun z w t n begun) same (begins n (subst (λ (z : Stored). HasAttemptRoom z n) (sym same) room))

  pub refused-behind : (r : Refusal) → ((m : ℕ) → HasAttemptRoom mid m → IsNotBegunFor mid m r × (begun ≡ mid)) → IsNotBegunFor old n r × (begun ≡ old)
  refused-behind r refused = subst (λ (z : Stored). IsNotBegunFor z n r × (begun ≡ z)) same (refused n (subst (λ (z : Stored). HasAttemptRoom z n) (sym same) room))

-- whichever comes
pub behind-refused : (old mid begun : Stored) (w : ℕ) → mid ≡ old → (n : ℕ) → HasAttemptRoom old n → (r : Result ℕ Refusal)
    → ((m : ℕ) → HasAttemptRoom mid m → IfErr r (λ why. IsNotBegunFor mid m why × (begun ≡ mid))) → IfErr r (λ why. IsNotBegunFor old n why × (begun ≡ old))
behind-refused old mid begun w same n room (Ok t) refused = tt
behind-refused old mid begun w same n room (Err r) refused = refused-behind old mid begun w same n room r refused

-- of calls that are asked
module _ (old mid begun : Stored) (w : ℕ) (calls : List AttemptCall) (same : mid ≡ old) (room : HasAttemptRoom old (length calls)) where
  many : HasAttemptRoom old (length (asked_calls calls))
  many = subst (λ n. HasAttemptRoom old n) (sym (length-map calls asked_call)) room

  pub begins-asked : (t : ℕ) → ((m : ℕ) → HasAttemptRoom mid m → HasBegun mid w t m begun) → HasBegun old w t (length (asked_calls calls)) begun
  begins-asked t begins = begins-behind old mid begun w same (length (asked_calls calls)) many t begins

  pub refused-asked : (r : Refusal) → ((m : ℕ) → HasAttemptRoom mid m → IsNotBegunFor mid m r × (begun ≡ mid)) → IsNotBegunFor old (length (asked_calls calls)) r × (begun ≡ old)
  refused-asked r refused = refused-behind old mid begun w same (length (asked_calls calls)) many r refused

-- ---- all of it

module _ (joins : ReplaysJoin) (old begun now : Stored) (w t : ℕ) (calls : List CallAt) (its : HasBegun old w t (length calls) begun) where
  -- after the commit the history is the replay of the commands
  pub done-replays : (ks : List ℕ) → TransactionCommits begun w t calls ks now
      → now ≡ commands_replayed old never w (begin_and_calls (begins old.history) calls ++ command.Commit (begins old.history) ∷ [])
  done-replays ks did =
      replayed-more joins old begun now w (command.Begin ∷ []) (map (call_command t) calls ++ command.Commit t ∷ []) never never never
      (λ i low. refl) (λ i low. refl) its.replays did.replays
      ∙ ap (λ u. commands_replayed old never w (begin_and_calls u calls ++ command.Commit u ∷ [])) its.number

  -- and its events are those of the answer
  pub done-answers : (ks : List ℕ) → TransactionCommits begun w t calls ks now → IsDoneAttempt old w calls ks now
  done-answers ks did =
      record {
        room = its.enough;
        as_many = did.as_many;
        events = events-more old begun now w (Begin t ∷ []) (operation_events t calls ks ++ Commit t ∷ []) its.events did.events
            ∙ ap (λ u. with_kinds old w (Begin u ∷ (operation_events u calls ks ++ Commit u ∷ []))) its.number;
      }

  -- so after the abort
  pub ended-replays : (at : ℕ) (how : Ending) → TransactionAborts begun w t calls at how now
      → now ≡ commands_replayed old (is_memory_refused_at (Ended at how)) w (attempt_commands (begins old.history) calls (Ended at how))
  ended-replays at how did =
      replayed-more joins old begun now w (command.Begin ∷ []) (map (call_command t) (take (suc at) calls) ++ command.Abort t ∷ []) (is_memory_refused_at (Ended at how)) never
      (λ i. is_for_memory how && i == at) (λ i low. first-place (is_for_memory how) i at low) (λ i low. next-place (is_for_memory how) i at) its.replays did.replays
      ∙ ap (λ u. commands_replayed old (is_memory_refused_at (Ended at how)) w (attempt_commands u calls (Ended at how))) its.number
    where
      first-place : (m : Bool) (i at : ℕ) → i < 1 → (m && i == suc at) ≡ false
      first-place true i at low = grind (arith, nat_tests, low)
      first-place false i at low = refl

      next-place : (m : Bool) (i at : ℕ) → (m && 1 + i == suc at) ≡ (m && i == at)
      next-place true i at = grind (arith, nat_tests)
      next-place false i at = refl

  pub ended-answers : (at : ℕ) (how : Ending) → TransactionAborts begun w t calls at how now → IsEndedAttempt old w calls at how now
  ended-answers at how did =
      record {
        room = its.enough;
        call = did.call;
        there = did.there;
        operations = did.operations;
        as_many = did.as_many;
        answer = did.answer;
        ends = subst (λ u. EndsSo (objects old) u did.call how did.answer) its.number (subst (λ os. EndsSo os t did.call how did.answer) (ap objects its.replays) did.ends);
        events = events-more old begun now w (Begin t ∷ []) ((operation_events t (take at calls) did.operations ++ did.answer) ++ Abort t ∷ []) its.events did.events
            ∙ ap (λ u. with_kinds old w (Begin u ∷ ((operation_events u (take at calls) did.operations ++ did.answer) ++ Abort u ∷ []))) its.number;
      }

  -- of either
  pub replays-all : (result : Attempt) → Transacts begun w t calls result now
      → now ≡ commands_replayed old (is_memory_refused_at result) w (attempt_commands (begins old.history) calls result)
  replays-all (Done ks) did = done-replays ks.items did
  replays-all (Ended at how) did = ended-replays at how did
  replays-all (NotBegun r) did = absurd did

  pub answers-all : (result : Attempt) → Transacts begun w t calls result now → AttemptAnswers old w calls result now
  answers-all (Done ks) did = done-answers ks.items did
  answers-all (Ended at how) did = ended-answers at how did
  answers-all (NotBegun r) did = absurd did
