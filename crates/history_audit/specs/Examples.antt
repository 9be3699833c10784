-- Two histories, of which the second has one object more.
use Rattle.std.specs.Prelude.{List, [], ◌∷◌}
use Rattle.object_trait.specs.declared.event.EventKind.TheVariants.{Begin, Op, Commit}
use Rattle.serial_order.specs.Examples.{events}
use Rattle.history_audit.specs.Epochs.{Told}

-- one counts up and commits
abbrev pub up_alone : Told
up_alone = record { objects = 1; events = events (Begin 0 ∷ Op 0 0 0 ∷ Commit 0 ∷ []) }

-- one counts down there and up at the object that was added, and commits
abbrev pub down_and_up : Told
down_and_up = record { objects = 2; events = events (Begin 0 ∷ Op 1 0 0 ∷ Op 0 0 1 ∷ Commit 0 ∷ []) }

abbrev pub two_histories : List Told
two_histories = up_alone ∷ down_and_up ∷ []
