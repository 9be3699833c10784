-- Objects at which no open transaction has an operation.
use Rattle.std.proofs.Common.{◌≡◌, ℕ, false, List}
use Rattle.std.proofs.lemmas.List.Elements.{recursion_from_All}
use Rattle.object_trait.specs.declared.event.Event.{Event}
use Rattle.serial_order.specs.History.{summary, is_open}
use Rattle.serial_order.specs.Serial.{surviving_at}
use Rattle.serial_order.specs.Represent.{IsIdle}
use Rattle.serial_order.specs.declared.entry.Entry.{Entry}

-- where no transaction is open, each object is one
pub none-idle : (K : List Event) (x : ℕ) → ((t : ℕ) → is_open (summary K) t ≡ false) → IsIdle x K
none-idle K x none = recursion_from_All (λ (e : Entry). is_open (summary K) e.by ≡ false) (surviving_at x K) (λ k d low. none _)
