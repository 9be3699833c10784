-- At which objects an open transaction holds operations.
use Rattle.std.specs.Prelude.{◌≡◌, ◌&&◌, ℕ, List}
use Rattle.std.specs.List.Sorted.{IsStrictlyIncreasing}
use Rattle.object_trait.specs.declared.event.Event.{Event}
use Rattle.serial_order.specs.Operations.{is_among, of}
use Rattle.serial_order.specs.History.{summary, is_open, surviving}
use Rattle.carried_orders.specs.Merging.{worked_at}

-- the objects at which what survives of an open transaction was done, ascending, each once; of one that isn't open there are none
pub record AreHeldAt (H : List Event) (t : ℕ) (xs : List ℕ) : Type 0 where
  pub ascend : IsStrictlyIncreasing xs
  pub are : (x : ℕ) → is_among xs x ≡ (is_open (summary H) t && is_among (worked_at (of t (surviving H))) x)
