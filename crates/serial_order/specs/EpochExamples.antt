-- Two epochs of a counter: it is counted up in the first, and down in the second.
use Rattle.std.specs.Prelude.{List, [], ◌∷◌}
use Rattle.object_trait.specs.declared.event.EventKind.TheVariants.{Begin, Op, Commit}
use Rattle.serial_order.specs.Examples.{events}
use Rattle.serial_order.specs.Epochs.{Epoch}

-- operation 0 counts up, and 1 is kept
abbrev pub up : Epoch
up = record { history = events (Begin 0 ∷ Op 0 0 0 ∷ Commit 0 ∷ []); kept = 1 ∷ []; added = [] }

-- transaction 0 of the next one counts down by operation 1
abbrev pub down : Epoch
down = record { history = events (Begin 0 ∷ Op 1 0 0 ∷ Commit 0 ∷ []); kept = 0 ∷ []; added = [] }

abbrev pub up_and_down_epochs : List Epoch
up_and_down_epochs = up ∷ down ∷ []
