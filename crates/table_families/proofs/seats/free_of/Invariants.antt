use Rattle.std.proofs.Common.{◌≡◌, ◌≤◌}
use Rattle.table_families.specs.Seats.{free_of}
use Rattle.table_families.proofs.seats.free_of.Given as goal

-- so many of the seats so far are free
abbrev pub invariant-loop-i : goal.invariant-loop-i
invariant-loop-i l = record {
  counted : l.free ≡ free_of l.i l.s;
  few : l.free ≤ l.i;
}
