-- One call of an open transaction.
use Rattle.std.proofs.Common.{◌≡◌, ℕ, ◌+◌, true, false, [], ◌∷◌, length, Option, Some, None, is_some, Result, Ok, Err, refl, sym, ap, ◌∙◌, inl, inr, arith, append-nil}
use Rattle.std.specs.Prelude.{if◌then◌else◌}
use Rattle.std.proofs.lemmas.List.{length-append}
use Rattle.object_trait.specs.declared.event.Event.{Event}
use Rattle.serial_order.specs.After.{summary_next, SummaryAfter}
use Rattle.serial_order.specs.History.{Summary, summary, is_open}
use Rattle.serial_order.specs.Replay.{open_count, is_history_full, event_of, appended}
use Rattle.serial_order.specs.declared.refusal.Refusal.{Refusal}
use Rattle.serial_order.specs.declared.refusal.Refusal.TheVariants.{NoMemory}
use Rattle.object_calls.specs.declared.answer.Answer.{Answer}
use Rattle.object_calls.specs.declared.answer.Answer.TheVariants as answer
use Rattle.store_laws.specs.Stored.{Stored, objects, refusal_of, stored_after, MayStep}
use Rattle.store_laws.specs.Words.{as_event}
use Rattle.store.specs.Calls.{NotesAnswer}
use Rattle.attempts.specs.declared.outcome.Ending.TheVariants as ending
use Rattle.attempts.specs.Commands.{CallAt, call_command, is_for_memory, with_kinds, commands_replayed}
use Rattle.attempts.specs.Answers.{asked_number, missing_call}
use Rattle.attempts.specs.Made.{replied, reply_to, CallsAreMade, IsLastCall, MakesCall}
use Rattle.attempts.proofs.Refusals.{has-number, refused-for, no-memory_fault}

-- ---- what an answer leaves

-- what the history says of who is open
answer-open : (S : Summary) (t x c : ℕ) (a : Answer) → is_open (summary_next S (as_event t x c a)) t ≡ is_open S t
answer-open S t x c (answer.Reply k) = refl
answer-open S t x c (answer.Busy u) = refl
answer-open S t x c answer.None = refl

answer-count : (S : Summary) (t x c : ℕ) (a : Answer) → open_count (summary_next S (as_event t x c a)) ≡ open_count S
answer-count S t x c (answer.Reply k) = refl
answer-count S t x c (answer.Busy u) = refl
answer-count S t x c answer.None = refl

-- ---- a call that is answered

-- it has a number, its event is that of the answer, and the replay appends it
record IsAnswered (s : Stored) (w t : ℕ) (call : CallAt) (a : Answer) (now : Stored) : Type 0 where
  pub c : ℕ
  pub number : asked_number (objects s) call ≡ Some c
  pub replays : now ≡ commands_replayed s (λ place. false) w (call_command t call ∷ [])
  pub events : now ≡ with_kinds s w (as_event t (call.0) c a ∷ [])

module _ (after : SummaryAfter) (s : Stored) (w t : ℕ) (call : CallAt) (now : Stored) where
  is-answered : (a : Answer) → MayStep s w (call_command t call) (Ok a) now
      → ((c : ℕ) → asked_number (objects s) call ≡ Some c → NotesAnswer s w t (call.0) c (Ok a) now) → IsAnswered s w t call a now
  is-answered a (inl steps) told =
      let found = has-number s t call (sym steps.0) in
      record { c = found.0; number = found.1; replays = steps.1; events = told found.0 found.1 }
  is-answered a (inr memory) told = absurd (let never : Ok a ≡ Err NoMemory = memory.1 in cc)

  module _ (going : is_open (summary s.history) t ≡ true) where
    -- the transaction stays open
    still-going : (a : Answer) (c : ℕ) → now ≡ with_kinds s w (as_event t (call.0) c a ∷ []) → is_open (summary now.history) t ≡ true
    still-going a c is =
        ap (λ (z : Stored). is_open (summary z.history) t) is
        ∙ ap (λ S. is_open S t) (after s.history (record { worker = w; kind = as_event t (call.0) c a })) ∙ answer-open (summary s.history) t (call.0) c a ∙ going

    -- and there is room for one event less
    less-room : (a : Answer) (c : ℕ) → now ≡ with_kinds s w (as_event t (call.0) c a ∷ [])
        → length now.history + open_count (summary now.history) ≡ length s.history + open_count (summary s.history) + 1
    less-room a c is =
        let e : Event = record { worker = w; kind = as_event t (call.0) c a } in
        let longer : length now.history ≡ length s.history + 1 = ap (λ (z : Stored). length z.history) is ∙ length-append s.history (e ∷ []) in
        let alike : open_count (summary now.history) ≡ open_count (summary s.history) =
        ap (λ (z : Stored). open_count (summary z.history)) is ∙ ap open_count (after s.history e) ∙ answer-count (summary s.history) t (call.0) c a
        in
        omega (arith, longer, alike)

    -- a reply
    got-reply : (k : ℕ) → MayStep s w (call_command t call) (Ok (answer.Reply k)) now
        → ((c : ℕ) → asked_number (objects s) call ≡ Some c → NotesAnswer s w t (call.0) c (Ok (answer.Reply k)) now) → CallsAreMade s w t (call ∷ []) (k ∷ []) now
    got-reply k step told =
        let its = is-answered (answer.Reply k) step told in
        record {
          as_many = refl;
          replays = its.replays;
          events = its.events;
          going = still-going (answer.Reply k) its.c its.events;
          room = less-room (answer.Reply k) its.c its.events;
        }

    -- `Busy`
    kept-out : (u : ℕ) → MayStep s w (call_command t call) (Ok (answer.Busy u)) now
        → ((c : ℕ) → asked_number (objects s) call ≡ Some c → NotesAnswer s w t (call.0) c (Ok (answer.Busy u)) now) → IsLastCall s w t call (ending.Busy u) now
    kept-out u step told =
        let its = is-answered (answer.Busy u) step told in
        record {
          answer = as_event t (call.0) its.c (answer.Busy u) ∷ [];
          ends = (its.c, its.number, refl);
          replays = its.replays;
          events = its.events;
          going = still-going (answer.Busy u) its.c its.events;
        }

    -- `None`
    not-legal : MayStep s w (call_command t call) (Ok answer.None) now
        → ((c : ℕ) → asked_number (objects s) call ≡ Some c → NotesAnswer s w t (call.0) c (Ok answer.None) now) → IsLastCall s w t call ending.None now
    not-legal step told =
        let its = is-answered answer.None step told in
        record {
          answer = as_event t (call.0) its.c answer.None ∷ [];
          ends = (its.c, its.number, refl);
          replays = its.replays;
          events = its.events;
          going = still-going answer.None its.c its.events;
        }

    -- an answer
    answered : (a : Answer) → MayStep s w (call_command t call) (Ok a) now
        → ((c : ℕ) → asked_number (objects s) call ≡ Some c → NotesAnswer s w t (call.0) c (Ok a) now) → MakesCall s w t call (replied a) now
    answered (answer.Reply k) step told = got-reply k step told
    answered (answer.Busy u) step told = kept-out u step told
    answered answer.None step told = not-legal step told

    -- ---- a call that is refused

    -- nothing has changed
    unchanged : now ≡ s → now ≡ with_kinds s w []
    unchanged same = same ∙ sym (ap (λ H. record s { history = H }) (append-nil s.history))

    pub refused-stays : (r : Refusal) → refusal_of s (call_command t call) ≡ Some r → stored_after s w (call_command t call) ≡ s
    refused-stays r reason =
        ap (λ (o : Option Refusal). record s { history = if is_some o then s.history else appended s.history w (event_of (objects s) (summary s.history) (call_command t call)) }) reason

    refused-call : is_history_full s.limits s.history 1 ≡ false → (r : Refusal) → MayStep {T = Answer} s w (call_command t call) (Err r) now → IsLastCall s w t call (ending.Refused r) now
    refused-call room r (inl steps) =
        let reason : refusal_of s (call_command t call) ≡ Some r = sym steps.0 in
        let fault : missing_call (objects s) call ≡ Some r = sym (refused-for s t call going room) ∙ reason in
        let same : now ≡ s = steps.1 ∙ refused-stays r reason in
        record {
          answer = [];
          ends = (refl, inl fault);
          replays = steps.1
              ∙ ap (λ b. record s { history = if b then s.history else (stored_after s w (call_command t call)).history }) (sym (no-memory_fault (objects s) call r fault));
          events = unchanged same;
          going = ap (λ (z : Stored). is_open (summary z.history) t) same ∙ going;
        }
    refused-call room r (inr memory) =
        let none : missing_call (objects s) call ≡ None = sym (refused-for s t call going room) ∙ memory.0 in
        let is_memory : r ≡ NoMemory = cc (memory.1) in
        record {
          answer = [];
          ends = (refl, inr (none, is_memory));
          replays = memory.2
              ∙ ap (λ (x : Refusal). record s { history = if is_for_memory (ending.Refused x) then s.history else (stored_after s w (call_command t call)).history }) (sym is_memory);
          events = unchanged memory.2;
          going = ap (λ (z : Stored). is_open (summary z.history) t) memory.2 ∙ going;
        }

    -- ---- a call, however it comes out

    pub came : is_history_full s.limits s.history 1 ≡ false → (r : Result Answer Refusal) → MayStep s w (call_command t call) r now
        → ((c : ℕ) → asked_number (objects s) call ≡ Some c → NotesAnswer s w t (call.0) c r now) → MakesCall s w t call (reply_to r) now
    came room (Ok a) step told = answered a step told
    came room (Err r) step told = refused-call room r step
