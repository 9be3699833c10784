use Rattle.std.proofs.Common.{◌≡◌, [], replicate}
use Rattle.exact_tables.specs.Predecessors.{lists_of}
use Rattle.exact_tables.proofs.predecessors.empty_lists.Given as goal

abbrev pub invariant-loop : goal.invariant-loop
invariant-loop l = lists_of l.lists.items ≡ replicate l.counter []
