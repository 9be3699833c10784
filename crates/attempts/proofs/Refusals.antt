-- Why an attempt isn't begun, and why a call of it is refused.
use Rattle.std.proofs.Common.{◌≡◌, ℕ, ◌+◌, ◌≤◌, Bool, true, false, not, nat_le, List, Option, Some, None, is_some, refl, sym, ap, ◌∙◌, arith}
use Rattle.std.specs.Prelude.{if◌then◌else◌, slice_get}
use Rattle.std.proofs.lemmas.Bool.{false≢true}
use Rattle.std.proofs.lemmas.Bool.Decides.{nat_tests}
use Rattle.std.proofs.lemmas.Option.{none-some, same_Some}
use Rattle.object_trait.specs.Object.{Object}
use Rattle.object_trait.specs.declared.event.Event.{Event}
use Rattle.store_limits.specs.declared.limits.Limits.{Limits}
use Rattle.serial_order.specs.History.{summary, is_open}
use Rattle.serial_order.specs.Replay.{open_count, is_history_full}
use Rattle.serial_order.specs.declared.command.Command.TheVariants as command
use Rattle.serial_order.specs.declared.refusal.Refusal.{Refusal}
use Rattle.serial_order.specs.declared.refusal.Refusal.TheVariants.{NotOpen, NoObject, NoCall, TooManyOpen, HistoryFull}
use Rattle.store_laws.specs.Stored.{Stored, objects, refusal_of}
use Rattle.attempts.specs.declared.outcome.Ending.TheVariants.{Refused}
use Rattle.attempts.specs.Commands.{CallAt, call_command, is_for_memory}
use Rattle.attempts.specs.Answers.{HasAttemptRoom, asked_number, missing_call}

-- ---- room

-- where there is room for some events, there is for fewer
pub fewer-fit : (limits : Limits) (H : List Event) (few many : ℕ) → few ≤ many → is_history_full limits H many ≡ false → is_history_full limits H few ≡ false
fewer-fit limits H few many less room = grind (arith, nat_tests, less, room)

-- what it is that an attempt has room
roomy : (many full : Bool) → (if many then Some TooManyOpen else (if full then Some HistoryFull else None)) ≡ None → (many ≡ false) × (full ≡ false)
roomy true full is = absurd (none-some TooManyOpen (sym is))
roomy false true is = absurd (none-some HistoryFull (sym is))
roomy false false is = (refl, refl)

pub room-parts : (s : Stored) (calls : ℕ) → HasAttemptRoom s calls → (nat_le s.limits.«open» (open_count (summary s.history)) ≡ false) × (is_history_full s.limits s.history (calls + 2) ≡ false)
room-parts s calls room = roomy _ _ room

-- where there is room, the begin isn't refused
pub begins-unrefused : (s : Stored) (calls : ℕ) → HasAttemptRoom s calls → refusal_of s command.Begin ≡ None
begins-unrefused s calls room =
    let parts = room-parts s calls room in
    let some = fewer-fit s.limits s.history 2 (calls + 2) (omega arith) parts.1 in
    rw (parts.0, some) refl

-- ---- calls

-- why a call is refused
abbrev call_refusal : Bool → Bool → Bool → Bool → Option Refusal
call_refusal going there numbered full =
    if not going then Some NotOpen else (if not there then Some NoObject else (if not numbered then Some NoCall else (if full then Some HistoryFull else None)))

numbered-of : (going there numbered full : Bool) → call_refusal going there numbered full ≡ None → numbered ≡ true
numbered-of false there numbered full is = absurd (none-some NotOpen (sym is))
numbered-of true false numbered full is = absurd (none-some NoObject (sym is))
numbered-of true true false full is = absurd (none-some NoCall (sym is))
numbered-of true true true full is = refl

some-number : (found : Option ℕ) → is_some found ≡ true → (c : ℕ) × (found ≡ Some c)
some-number None is = absurd (false≢true is)
some-number (Some c) is = (c, refl)

-- one that isn't refused has a number
pub has-number : (s : Stored) (t : ℕ) (call : CallAt) → refusal_of s (call_command t call) ≡ None → (c : ℕ) × (asked_number (objects s) call ≡ Some c)
has-number s t call accepted =
    some-number (asked_number (objects s) call) (numbered-of (is_open (summary s.history) t) (is_some (slice_get (objects s) (call.0))) (is_some (asked_number (objects s) call)) _ accepted)

-- a call of an open transaction, for whose event there is room, is refused for its fault alone
pub refused-for : (s : Stored) (t : ℕ) (call : CallAt) → is_open (summary s.history) t ≡ true → is_history_full s.limits s.history 1 ≡ false
    → refusal_of s (call_command t call) ≡ missing_call (objects s) call
refused-for s t call going room =
    let there = is_some (slice_get (objects s) (call.0)) in
    let numbered = is_some (asked_number (objects s) call) in
    ap (λ b. call_refusal b there numbered (is_history_full s.limits s.history 1)) going ∙ ap (call_refusal true there numbered) room

-- which isn't that memory was refused
fault-no_memory : (there numbered : Bool) (r : Refusal) → (if not there then Some NoObject else (if not numbered then Some NoCall else None)) ≡ Some r → is_for_memory (Refused r) ≡ false
fault-no_memory false numbered r is = ap (λ (x : Refusal). is_for_memory (Refused x)) (sym (same_Some NoObject r is))
fault-no_memory true false r is = ap (λ (x : Refusal). is_for_memory (Refused x)) (sym (same_Some NoCall r is))
fault-no_memory true true r is = absurd (none-some r is)

pub no-memory_fault : (os : List Object) (call : CallAt) (r : Refusal) → missing_call os call ≡ Some r → is_for_memory (Refused r) ≡ false
no-memory_fault os call r is = fault-no_memory (is_some (slice_get os (call.0))) (is_some (asked_number os call)) r is
