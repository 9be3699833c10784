-- Small histories with readers, worked by hand.
use Rattle.std.specs.Prelude.{List, [], ◌∷◌}
use Rattle.table_checker.specs.Checked.{Checked}
use Rattle.table_checker.specs.Examples.{one_way_file}
use Rattle.type_table.specs.declared.kind.Kind.TheVariants.{Undo}
use Rattle.object_trait.specs.declared.event.Event.{Event}
use Rattle.object_trait.specs.declared.event.EventKind.TheVariants.{Begin, Op, Commit}
use Rattle.serial_order.specs.Examples.{events}

-- the one-way type, update in place
abbrev pub one_way_in_place : Checked
one_way_in_place = record { kind = Undo; file = one_way_file }

-- at an account, 0 pays in
abbrev pub paying : List Event
paying = events (Begin 0 ∷ Op 0 0 0 ∷ [])

-- and commits
abbrev pub paid : List Event
paid = events (Commit 0 ∷ [])

-- transaction 1 reads a balance of 0 between these
abbrev pub read_between : List Event
read_between = events (Begin 0 ∷ Op 0 0 0 ∷ Begin 1 ∷ Op 1 1 0 ∷ Commit 1 ∷ Commit 0 ∷ [])
