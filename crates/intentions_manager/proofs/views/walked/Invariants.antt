use Rattle.std.proofs.Common.{◌≡◌, ◌<◌, drop}
use Rattle.intentions_manager.specs.Walk.{walked}
use Rattle.intentions_manager.proofs.views.walked.Given as goal

-- what is left of the walk ends where all of it does
abbrev pub invariant-loop-entry : goal.invariant-loop-entry
invariant-loop-entry l = record {
  inside : l.state < l.table.states;
  rest : walked l.table l.t l.state (drop l.entry-index l.log) ≡ walked l.table l.t l.s l.log;
}
