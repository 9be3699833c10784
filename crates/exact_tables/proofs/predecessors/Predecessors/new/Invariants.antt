use Rattle.std.proofs.Common.{◌<◌}
use Rattle.exact_tables.specs.Predecessors.{HaveSteps, lists_of}
use Rattle.exact_tables.proofs.predecessors.Predecessors.new.Given as goal

abbrev pub invariant-loop-s : goal.invariant-loop-s
invariant-loop-s l = HaveSteps l.table (λ a k. a < l.s) (lists_of l.lists.items)
