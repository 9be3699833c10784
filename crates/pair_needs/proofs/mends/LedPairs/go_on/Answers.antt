use Rattle.std.proofs.Common.{◌∙◌, arith}
use Rattle.pair_needs.proofs.Gathered.{gathered-place}
use Rattle.pair_needs.proofs.mends.LedPairs.go_on.Goals as goal

pub loop-k-preserved : goal.loop-k-preserved
loop-k-preserved c = record {
  gathered = c.in_ok-follow.ensures.gathered;
  kept = λ x y known. c.in_ok-follow.ensures.kept x y (c.loop-k.invariant.kept x y known);
  more = omega (arith, c.in_ok-follow.ensures.more, c.loop-k.invariant.more);
  same = c.in_ok-follow.ensures.pair ∙ c.loop-k.invariant.same;
}

pub returns-clause-gathered : goal.returns-clause-gathered
returns-clause-gathered c =
    gathered-place c.steps_within.ensures c.args.table.now c.args.place c.loop-k.k c.loop-k.self (omega (arith, c.op_count-k-end.ensures.exact, c.loop-k-test.false)) c.loop-k.invariant.gathered
