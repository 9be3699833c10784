-- Why a store refuses what a worker asks.
use Rattle.std.proofs.Common.{◌≡◌, ℕ, Bool, true, false, not, ◌⊎◌, Option, Some, None, is_some, inl, inr, refl, sym}
use Rattle.std.specs.Prelude.{slice_get, if◌then◌else◌}
use Rattle.std.proofs.lemmas.Bool.{false≢true}
use Rattle.std.proofs.lemmas.Option.{none-some, same_Some}
use Rattle.serial_order.specs.History.{summary, is_open}
use Rattle.serial_order.specs.declared.command.Command.TheVariants as command
use Rattle.serial_order.specs.declared.refusal.Refusal.{Refusal}
use Rattle.serial_order.specs.declared.refusal.Refusal.TheVariants.{NotOpen, NoObject, NoCall, TooManyOpen, HistoryFull, NoMemory}
use Rattle.store_laws.specs.Stored.{Stored, objects, refusal_of}
use Rattle.jobs_text.specs.Jobs.{Call}
use Rattle.worker_turns.specs.Parts.{number_at_object, IsBeginRefusal, IsCallRefusal}

-- ---- a begin

-- too many are open, or the history is full
begin_reason : (many full : Bool) (r : Refusal)
    → (if many then Some TooManyOpen else (if full then Some HistoryFull else None)) ≡ Some r → IsBeginRefusal r
begin_reason true full r is = inl (sym (same_Some TooManyOpen r is))
begin_reason false true r is = inr (inl (sym (same_Some HistoryFull r is)))
begin_reason false false r is = absurd (none-some r is)

pub begin_refused : (s : Stored) (r : Refusal) → (refusal_of s command.Begin ≡ Some r) ⊎ ((refusal_of s command.Begin ≡ None) × (r ≡ NoMemory)) → IsBeginRefusal r
begin_refused s r (inl reason) = begin_reason _ _ r reason
begin_refused s r (inr (none, memory)) = inr (inr memory)

-- ---- a call of an open transaction

-- why no transaction may make a call whose object is there or not, and whose number is
abbrev fault : Bool → Bool → Option Refusal
fault there numbered = if not there then Some NoObject else (if not numbered then Some NoCall else None)

-- why it is refused of a transaction that is open or not, where the history is full or not
abbrev pub call_refusal : Bool → Bool → Bool → Bool → Option Refusal
call_refusal going there numbered full =
    if not going then Some NotOpen else (if not there then Some NoObject else (if not numbered then Some NoCall else (if full then Some HistoryFull else None)))

-- its fault, or the history is full
call_reason : (going there numbered full : Bool) (r : Refusal) → going ≡ true
    → call_refusal going there numbered full ≡ Some r
    → (fault there numbered ≡ Some r) ⊎ ((fault there numbered ≡ None) × (r ≡ HistoryFull))
call_reason false there numbered full r going is = absurd (false≢true going)
call_reason true false numbered full r going is = inl is
call_reason true true false full r going is = inl is
call_reason true true true true r going is = inr (refl, sym (same_Some HistoryFull r is))
call_reason true true true false r going is = absurd (none-some r is)

pub call_refused : (s : Stored) (t : ℕ) (call : Call) (r : Refusal) → is_open (summary s.history) t ≡ true
    → (refusal_of s (command.Call t (call.0) (call.1)) ≡ Some r) ⊎ ((refusal_of s (command.Call t (call.0) (call.1)) ≡ None) × (r ≡ NoMemory))
    → IsCallRefusal (objects s) call r
call_refused s t call r going (inl reason) =
    elim (call_reason (is_open (summary s.history) t) (is_some (slice_get (objects s) (call.0))) (is_some (number_at_object (objects s) call)) _ r going reason) [
      | inl its ↦ inl its
      | inr full ↦ inr (inl full)
    ]
call_refused s t call r going (inr (none, memory)) = inr (inr memory)

-- a call that isn't refused has an object and a number
pub not_refused : (going there numbered full : Bool) → call_refusal going there numbered full ≡ None → (there ≡ true) × (numbered ≡ true)
not_refused false there numbered full is = absurd (none-some NotOpen (sym is))
not_refused true false numbered full is = absurd (none-some NoObject (sym is))
not_refused true true false full is = absurd (none-some NoCall (sym is))
not_refused true true true full is = (refl, refl)
