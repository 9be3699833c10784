use Rattle.std.proofs.Common.{arith}
use Rattle.exact_tables.proofs.Loops.{leads-none, leads-more, leads-all}
use Rattle.exact_tables.proofs.rounds.strike_before.Goals as goal

pub loop-k-init : goal.loop-k-init
loop-k-init c = leads-none c.args.table.now c.args.n c.args.s c.args.t c.args.search.now

pub strike_all-requires-clause-firsts : goal.strike_all-requires-clause-firsts
strike_all-requires-clause-firsts c = λ k d inside. omega (arith, c.of-firsts.ensures.inside k d inside, c.requires.fits, c.loop-k.invariant.states)

pub strike_all-requires-clause-seconds : goal.strike_all-requires-clause-seconds
strike_all-requires-clause-seconds c = λ k d inside. omega (arith, c.of-seconds.ensures.inside k d inside, c.requires.fits, c.loop-k.invariant.states)

pub loop-k-preserved : goal.loop-k-preserved
loop-k-preserved c =
    leads-more c.args.table.now c.args.n c.args.s c.args.t c.loop-k.k c.of-firsts.result.now c.of-seconds.result.now c.args.search.now c.loop-k.search c.strike_all.new.search
    c.of-firsts.ensures.exact c.of-seconds.ensures.exact c.loop-k.invariant c.in_ok-strike_all.ensures

pub returns : goal.returns
returns c = leads-all c.args.table.now c.args.n c.args.s c.args.t c.loop-k.k c.args.search.now c.loop-k.search (omega (arith, c.op_count-k-end.ensures.exact)) c.loop-k.invariant
