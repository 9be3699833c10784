use Rattle.exact_tables.specs.Predecessors.{HaveSteps, lists_of}
use Rattle.exact_tables.proofs.StepLists.{IsBefore}
use Rattle.exact_tables.proofs.predecessors.put_state.Given as goal

abbrev pub invariant-loop-k : goal.invariant-loop-k
invariant-loop-k l = HaveSteps l.table (IsBefore l.s l.k) (lists_of l.lists)
