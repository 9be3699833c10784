use Rattle.std.proofs.Common.{◌≤◌, arith}
use Rattle.pair_needs.proofs.FirstLegal.{illegal_everywhere}
use Rattle.pair_needs.proofs.numeric_fault.first_legal.Goals as goal

pub returns : goal.returns
returns c =
    let all : c.args.table.now.states ≤ c.loop-s.s = omega (arith, c.states-s-end.ensures.exact) in
    illegal_everywhere c.steps_within.ensures c.args.table.now c.states-s-end.ensures.table c.args.k c.args.start c.loop-s.s all c.loop-s.invariant
