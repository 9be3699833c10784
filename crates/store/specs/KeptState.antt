-- The kept state of an object of a store.
use Rattle.std.specs.Prelude.{◌≡◌, ℕ, ◌<◌, ◌^◌, Some, slice_get}
use Rattle.type_table.specs.Run.{run}
use Rattle.type_table.specs.declared.kind.Kind.TheVariants.{Undo}
use Rattle.object_trait.specs.Object.{Object}
use Rattle.serial_order.specs.Operations.{ops}
use Rattle.serial_order.specs.Serial.{surviving_at}
use Rattle.serial_order.specs.Represent.{KeptAgreesBy}
use Rattle.store_laws.specs.Stored.{Stored, objects}

-- the state that is kept of the object at x: with update in place exactly the one to which all that survives there leads. It agrees with
-- the serial state, and has 32 bits
pub record IsKeptState (s : Stored) (x state : ℕ) : Type 0 where
  pub o : Object
  pub there : slice_get (objects s) x ≡ Some o
  pub in_place : o.kind ≡ Undo → run o.table (Some o.table.initial) (ops (surviving_at x s.history)) ≡ Some state
  pub agrees : KeptAgreesBy o.kind o (Some state) x s.history
  pub fits : state < 2 ^ 32
