use Rattle.table_families.proofs.Numbers.{IsSummed}
use Rattle.table_families.proofs.counts.add_up.Given as goal

-- the numbers below the room are those of one more count
abbrev pub invariant-loop-room : goal.invariant-loop-room
invariant-loop-room l = IsSummed l.initial.numbers l.numbers l.room
