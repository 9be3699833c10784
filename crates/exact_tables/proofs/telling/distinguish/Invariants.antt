use Rattle.std.proofs.Common.{◌-◌}
use Rattle.exact_tables.proofs.Nearer.{IsFront}
use Rattle.exact_tables.proofs.telling.distinguish.Given as goal

abbrev pub invariant-loop-done : goal.invariant-loop-done
invariant-loop-done l = IsFront l.table l.distances l.s l.t l.list.items l.first l.second (l.far - l.done)
