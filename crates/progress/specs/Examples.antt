-- Ends of a wait, worked by hand.
use Rattle.std.specs.Prelude.{List, [], ◌∷◌}
use Rattle.object_trait.specs.declared.event.Event.{Event}
use Rattle.object_trait.specs.declared.event.EventKind.TheVariants.{Begin, Abort}
use Rattle.serial_order.specs.Examples.{events}

-- 0 aborts, and 2 begins
abbrev pub abort_and_begin : List Event
abort_and_begin = events (Abort 0 ∷ Begin 2 ∷ [])
