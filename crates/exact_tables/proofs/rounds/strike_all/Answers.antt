use Rattle.std.proofs.Common.{get_or, arith}
use Rattle.std.proofs.lemmas.Option.{slice_get-get_or}
use Rattle.exact_tables.proofs.Strikes.{strikes-none}
use Rattle.exact_tables.proofs.Loops.{strikes-same, among-none, among-any, among-all, firsts-more}
use Rattle.exact_tables.proofs.rounds.strike_all.Goals as goal

pub loop-s-init : goal.loop-s-init
loop-s-init c = strikes-none c.args.n _ c.args.search.now (λ x y x_in y_in is. absurd (among-none c.args.firsts.now x is.0))

pub strike_with-requires-clause-seconds : goal.strike_with-requires-clause-seconds
strike_with-requires-clause-seconds c = λ k d inside. omega (arith, c.requires.seconds k d inside, c.loop-s.invariant.states)

pub loop-s-preserved : goal.loop-s-preserved
loop-s-preserved c =
    firsts-more c.args.n (get_or c.args.firsts.now c.loop-s.s-index 0) c.loop-s.s-index c.args.firsts.now c.args.seconds.now c.args.search.now c.loop-s.search c.strike_with.new.search
    (slice_get-get_or c.args.firsts.now c.loop-s.s-index 0 c.loop-s-test.true) c.loop-s.invariant c.in_ok-strike_with.ensures

pub returns : goal.returns
returns c = strikes-same c.args.n _ _ c.args.search.now c.loop-s.search c.loop-s.invariant
    (λ x y is. (among-any c.args.firsts.now c.loop-s.s-index x is.0, is.1))
    (λ x y is. (among-all c.args.firsts.now c.loop-s.s-index x c.loop-s-test.false is.0, is.1))
