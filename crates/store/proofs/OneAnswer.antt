-- A call that is made where it has one answer.
use Rattle.std.proofs.Common.{◌≡◌, ℕ, Bool, true, false, List, Option, Some, None, Result, Ok, Err, slice_get, refl, sym, ap, subst, ◌∙◌, inl, inr}
use Rattle.std.specs.Prelude.{IfOk, OnErr}
use Rattle.std.proofs.lemmas.Option.{same_Some}
use Rattle.object_trait.specs.Object.{Object}
use Rattle.object_trait.specs.declared.event.EventKind.{EventKind}
use Rattle.object_trait.specs.declared.event.EventKind.TheVariants as kind
use Rattle.object_calls.specs.declared.answer.Answer.{Answer}
use Rattle.object_calls.specs.declared.answer.Answer.TheVariants as answer
use Rattle.serial_order.specs.History.{summary, is_open}
use Rattle.serial_order.specs.Replay.{is_history_full, call_at, call_event}
use Rattle.serial_order.specs.declared.command.Command.TheVariants.{Call}
use Rattle.serial_order.specs.declared.refusal.Refusal.{Refusal}
use Rattle.serial_order.specs.declared.refusal.Refusal.TheVariants.{HistoryFull}
use Rattle.store_laws.specs.Stored.{Stored, objects, refusal_of}
use Rattle.store_laws.specs.Words.{as_event}
use Rattle.store.specs.Calls.{AnswersCall, ComesIf, CallsIf}

-- ---- one event says one answer

pub answer-of : EventKind → Answer
answer-of (kind.Op k t x) = answer.Reply k
answer-of (kind.Busy c t x u) = answer.Busy u
answer-of _ = answer.None

pub answer-told : (t x c : ℕ) (a : Answer) → answer-of (as_event t x c a) ≡ a
unfolding answer-of
answer-told t x c (answer.Reply k) = refl
answer-told t x c (answer.Busy u) = refl
answer-told t x c answer.None = refl

pub one-answer : (found : Option EventKind) (t x c : ℕ) (a b : Answer) → found ≡ Some (as_event t x c a) → found ≡ Some (as_event t x c b) → a ≡ b
one-answer found t x c a b is also =
    let same = same_Some (as_event t x c a) (as_event t x c b) (sym is ∙ also) in
    sym (answer-told t x c a) ∙ ap answer-of same ∙ answer-told t x c b

-- so the answer that was given is the one that was chosen
pub comes-as : (old new : Stored) (w t x c : ℕ) (a chosen b : Answer) → call_event (slice_get (objects old) x) (summary old.history) x t (Some c) ≡ Some (as_event t x c chosen) → chosen ≡ b
    → AnswersCall old w t x c (Ok a) new → AnswersCall old w t x c (Ok b) new
comes-as old new w t x c a chosen b is same comes =
    let given : a ≡ b = one-answer (call_event (slice_get (objects old) x) (summary old.history) x t (Some c)) t x c a chosen comes.1 is ∙ same in
    subst (λ (z : Answer). AnswersCall old w t x c (Ok z) new) given comes

-- ---- what is known of each outcome

-- where it is answered
pub if-ok : {P : Type 0} (result : Result Bool Refusal) → P → IfOk result (λ made. P)
if-ok (Ok made) p = p
if-ok (Err r) p = tt

-- where it is refused nothing has changed
pub if-err : (old new : Stored) (w t x c : ℕ) (a : Answer) (result : Result Bool Refusal) → ComesIf old w t x c a result new → OnErr result (new ≡ old)
if-err old new w t x c a (Ok made) comes = tt
if-err old new w t x c a (Err r) comes = comes.0

-- ---- a call that is named

module _ (old new : Stored) (w t x c : ℕ) (name : List ℕ) (o : Object) (there : slice_get (objects old) x ≡ Some o) (going : is_open (summary old.history) t ≡ true)
    (named : call_at (slice_get (objects old) x) name ≡ Some c) where
  pub with-room : is_history_full old.limits old.history 1 ≡ false → refusal_of old (Call t x name) ≡ None
  with-room room = rw (going, named, there, room) refl

  pub without-room : is_history_full old.limits old.history 1 ≡ true → refusal_of old (Call t x name) ≡ Some HistoryFull
  without-room full = rw (going, named, there, full) refl

  pub its-event : call_event (slice_get (objects old) x) (summary old.history) x t (call_at (slice_get (objects old) x) name) ≡ call_event (slice_get (objects old) x) (summary old.history) x t (Some c)
  its-event = ap (call_event (slice_get (objects old) x) (summary old.history) x t) named

  pub calls-if : (a : Answer) (result : Result Bool Refusal) → ComesIf old w t x c a result new → CallsIf old w t x name c a result new
  calls-if a (Ok true) comes = (with-room comes.0, its-event ∙ comes.1, comes.2)
  calls-if a (Ok false) comes = (λ makes. comes.0 (sym its-event ∙ makes), comes.1)
  calls-if a (Err r) comes = (
    comes.0,
    elim comes.1 [
      | inl full ↦ inl (without-room full.0 ∙ ap Some (sym full.1))
      | inr memory_refused ↦ inr (with-room memory_refused.0, memory_refused.1)
    ],
  )
