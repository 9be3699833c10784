-- What a call answers, from its refusal and its event.
use Rattle.std.proofs.Common.{◌≡◌, ℕ, [], ◌∷◌, ◌++◌, Some, None, Ok, Err, refl, sym, inr}
use Rattle.object_trait.specs.declared.event.EventKind.{EventKind}
use Rattle.serial_order.specs.History.{summary}
use Rattle.serial_order.specs.Replay.{event_of}
use Rattle.serial_order.specs.declared.command.Command.{Command}
use Rattle.serial_order.specs.declared.refusal.Refusal.{Refusal}
use Rattle.serial_order.specs.declared.refusal.Refusal.TheVariants.{NoMemory}
use Rattle.store_laws.specs.Stored.{Stored, objects, refusal_of, Steps, MayStep}

-- a refusal changes nothing
pub refused-steps : (T : Type 0) (s : Stored) (w : ℕ) (command : Command) (r : Refusal) → refusal_of s command ≡ Some r → Steps {T = T} s w command (Err r) s
refused-steps T s w command r reason = (sym reason, rw reason refl)

-- a command that isn't refused appends its event
pub accepted-steps : (T : Type 0) (s : Stored) (w : ℕ) (command : Command) (x : T) (happened : EventKind) (new : Stored) → refusal_of s command ≡ None
    → event_of (objects s) (summary s.history) command ≡ Some happened
    → new ≡ record s { history = s.history ++ (record { worker = w; kind = happened }) ∷ [] } → Steps s w command (Ok x) new
accepted-steps T s w command x happened new unrefused is same = (rw unrefused refl, rw (unrefused, is) same)

-- where memory was refused nothing changes
pub memory_refused-steps : (T : Type 0) (s : Stored) (w : ℕ) (command : Command) (new : Stored) → refusal_of s command ≡ None → new ≡ s → MayStep {T = T} s w command (Err NoMemory) new
memory_refused-steps T s w command new unrefused same = inr (unrefused, refl, same)
