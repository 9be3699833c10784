-- A command of a transaction is denied where the transaction is prepared, and else it is the store's own.
use Rattle.std.proofs.Common.{◌≡◌, Bool, false, Result, Ok, Err}
use Rattle.serial_order.specs.declared.refusal.Refusal.{Refusal}
use Rattle.store_laws.specs.Stored.{Stored}
use Rattle.durable_store.specs.Held.{Unless, as_denied}

-- what the store answered, of one that isn't prepared
pub unless-denied : {T : Type 0} (prepared : Bool) (old new : Stored) (Does : Result T Refusal → Type 0) (r : Result T Refusal) → prepared ≡ false → Does r → Unless prepared old Does (as_denied r) new
unless-denied prepared old new Does (Ok x) is does = (is, does)
unless-denied prepared old new Does (Err why) is does = (is, does)
