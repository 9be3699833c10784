use Rattle.std.proofs.Common.{◌≡◌}
use Rattle.std.specs.List.{flat_map, range_with_len}
use Rattle.table_families.specs.Seats.{seat_ops}
use Rattle.table_families.proofs.seats.seats_ops.Given as goal

-- the operations are those of the seats so far
abbrev pub invariant-loop-i : goal.invariant-loop-i
invariant-loop-i l = l.ops.items ≡ flat_map seat_ops (range_with_len 1 l.i)
