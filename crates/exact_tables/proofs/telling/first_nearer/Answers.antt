use Rattle.std.proofs.Common.{arith, below_more}
use Rattle.exact_tables.proofs.Nearer.{some-nearer}
use Rattle.exact_tables.proofs.telling.first_nearer.Goals as goal

pub returns-in-Some : goal.returns-in-Some
returns-in-Some c = record { nearer = c.in-Some.ensures.1; least = λ j low. c.loop-k.invariant j (omega (arith, low, c.in-Some.ensures.0)) }

pub loop-k-preserved : goal.loop-k-preserved
loop-k-preserved c = below_more _ _ c.loop-k.invariant c.in_default.ensures

pub returns : goal.returns
returns c = absurd (some-nearer c.steps_within.ensures c.args.table.now c.args.distances.now c.args.s c.args.t c.args.far c.op_count-k-end.ensures.table c.requires.distances
    c.requires.first c.requires.second c.requires.far (λ j j_in. c.loop-k.invariant j (omega (arith, j_in, c.op_count-k-end.ensures.exact, c.loop-k-test.false))))
