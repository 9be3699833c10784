-- What comes of a command, by its code.
use Rattle.std.proofs.Common.{◌≡◌, ℕ, ◌<◌, Bool, true, false, not, ◌||◌, ◌==◌, nat_lt, List, length, Option, Some, None, is_some, Result, slice_get, refl, sym, ap, ◌∙◌, inl, inr, arith}
use Rattle.std.specs.Prelude.{if◌then◌else◌}
use Rattle.std.proofs.lemmas.Bool.Decides.{nat_tests}
use Rattle.std.proofs.Math.Bool.{or-true}
use Rattle.serial_order.specs.History.{summary, is_open}
use Rattle.serial_order.specs.Operations.{of}
use Rattle.serial_order.specs.Replay.{is_history_full, call_at, event_of, appended}
use Rattle.serial_order.specs.declared.command.Command.{Command}
use Rattle.serial_order.specs.declared.command.Command.TheVariants.{Call, Rollback}
use Rattle.serial_order.specs.declared.refusal.Refusal.{Refusal}
use Rattle.serial_order.specs.declared.refusal.Refusal.TheVariants as refusal
use Rattle.serial_order.proofs.Living.{living_of-length}
use Rattle.store_laws.specs.Stored.{Stored, objects, refusal_of, stored_after, refusal_in, Steps, MayStep}
use Rattle.store.specs.Calls.{unnumbered}
use Rattle.library_calls.specs.Calls.{IsCommandDone, told, memory_refused}
use Rattle.library_calls.specs.Codes.{number, code_of}

-- ---- refusals

-- a refusal leaves the store
stays : (s : Stored) (w : ℕ) (command : Command) (o : Option Refusal) → refusal_of s command ≡ o → is_some o ≡ true → stored_after s w command ≡ s
stays s w command o is some =
    ap (λ b. record s { history = if b then s.history else appended s.history w (event_of (objects s) (summary s.history) command) }) (ap is_some is ∙ some)

-- a call of a transaction that isn't open is refused
pub closed_call : (s : Stored) (t x : ℕ) (name : List ℕ) → is_open (summary s.history) t ≡ false → refusal_of s (Call t x name) ≡ Some refusal.NotOpen
closed_call s t x name closed =
    ap (λ b. if not b then Some refusal.NotOpen
    else (if not (is_some (slice_get (objects s) x)) then Some refusal.NoObject
    else (if not (is_some (call_at (slice_get (objects s) x) name)) then Some refusal.NoCall
    else (if is_history_full s.limits s.history 1 then Some refusal.HistoryFull else None)))) closed

pub closed_unnumbered : (s : Stored) (t x : ℕ) → is_open (summary s.history) t ≡ false → unnumbered s t x ≡ refusal.NotOpen
closed_unnumbered s t x closed = ap (λ b. if not b then refusal.NotOpen else (if not (is_some (slice_get (objects s) x)) then refusal.NoObject else refusal.NoCall)) closed

-- ---- steps of a store

pub steps_done : {T : Type 0} (s : Stored) (w : ℕ) (command : Command) (result : Result T Refusal) (n : ℕ) (new : Stored)
    → Steps s w command result new → n ≡ number (code_of (refusal_in result)) → IsCommandDone s w command n new
steps_done s w command result n new step is = told (is ∙ ap (λ (o : Option Refusal). number (code_of o)) step.0) step.1

pub may_done : {T : Type 0} (s : Stored) (w : ℕ) (command : Command) (result : Result T Refusal) (n : ℕ) (new : Stored)
    → MayStep s w command result new → n ≡ number (code_of (refusal_in result)) → IsCommandDone s w command n new
may_done s w command result n new step is =
    elim step [
      | inl step ↦ steps_done s w command result n new step is
      | inr none ↦ memory_refused none.0 (is ∙ ap (λ r. number (code_of (refusal_in r))) none.1) none.2
    ]

-- ---- rollbacks of more operations than there are

either : (b : Bool) → is_some (if not b then Some refusal.NotOpen else Some refusal.BadRollback) ≡ true
either true = refl
either false = refl

-- a rollback of more than there are is refused as one of none is
far_refused : (s : Stored) (t n : ℕ) → length (of t (summary s.history).survives) < n → refusal_of s (Rollback t n) ≡ refusal_of s (Rollback t 0)
far_refused s t n far =
    let more : nat_lt (length (of t (summary s.history).survives)) n ≡ true = grind (arith, nat_tests, far) in
    let bad : (n == 0 || nat_lt (length (of t (summary s.history).survives)) n) ≡ true = ap (λ b. n == 0 || b) more ∙ or-true (n == 0) in
    ap (λ b. if not (is_open (summary s.history) t) then Some refusal.NotOpen
    else (if b then Some refusal.BadRollback else (if is_history_full s.limits s.history 1 then Some refusal.HistoryFull else None))) bad

none_refused : (s : Stored) (t : ℕ) → is_some (refusal_of s (Rollback t 0)) ≡ true
none_refused s t = either (is_open (summary s.history) t)

-- so what comes of the one comes of the other
pub far_done : (s : Stored) (w t m n : ℕ) (new : Stored) → length s.history < m → IsCommandDone s w (Rollback t 0) n new → IsCommandDone s w (Rollback t m) n new
far_done s w t m n new far (told is to) =
    let few = living_of-length t s.history in
    let same = far_refused s t m (omega (arith, few, far)) in
    told (is ∙ ap (λ (o : Option Refusal). number (code_of o)) (sym same))
    (to ∙ stays s w (Rollback t 0) (refusal_of s (Rollback t 0)) refl (none_refused s t) ∙ sym (stays s w (Rollback t m) (refusal_of s (Rollback t 0)) same (none_refused s t)))
far_done s w t m n new far (memory_refused none is to) = absurd (let clash : true ≡ false = sym (none_refused s t) ∙ ap is_some none in cc)
