use Rattle.pair_needs.proofs.Outside.{IsPart}
use Rattle.pair_needs.proofs.explainer.difference.Given as goal

abbrev pub invariant-loop-s : goal.invariant-loop-s
invariant-loop-s l = IsPart l.first l.second l.s l.set l.some
