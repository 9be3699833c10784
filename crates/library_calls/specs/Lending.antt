-- What is lent out of what a handle holds.
use Rattle.std.specs.Borrow.{Lends, MutBor, Fml}
use Rattle.objects.specs.contracts.object.Object as object
use Rattle.objects.specs.contracts.object.ObjectRecovery.TheImpl.{ghosts}
use Rattle.store.specs.contracts.store.Store as store
use Rattle.store_laws.specs.Stored.{Stored}
use Rattle.library_calls.specs.contracts.held.Held as held
use Rattle.library_calls.specs.declared.held.Held.{Held}
use Rattle.library_calls.specs.declared.held.Held.TheVariants.{OfStore}

-- the store, which is held as it is left
abbrev pub LendsStore : MutBor Held → MutBor Stored → Fml
LendsStore h r = Lends held.the_row (store.the_row object.the_row ghosts) h r (λ s. OfStore s)
