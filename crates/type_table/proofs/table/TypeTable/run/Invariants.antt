use Rattle.std.proofs.Common.{◌≡◌, ◌<◌, Some, drop}
use Rattle.type_table.specs.Run.{run}
use Rattle.type_table.proofs.table.TypeTable.run.Given as goal

-- what is left to run from here ends where the whole list does
abbrev pub invariant-loop-k : goal.invariant-loop-k
invariant-loop-k l = (l.state < l.self.states) × (run l.self (Some l.state) (drop l.k-index l.ks) ≡ run l.self (Some l.s) l.ks)
