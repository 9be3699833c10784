use Rattle.std.proofs.Common.{get_or}
use Rattle.std.proofs.lemmas.Option.{slice_get-get_or}
use Rattle.exact_tables.proofs.Strikes.{strikes-none}
use Rattle.exact_tables.proofs.Loops.{strikes-same, among-none, among-any, among-all, seconds-more}
use Rattle.exact_tables.proofs.rounds.strike_with.Goals as goal

pub loop-t-init : goal.loop-t-init
loop-t-init c = strikes-none c.args.n _ c.args.search.now (λ x y x_in y_in is. absurd (among-none c.args.seconds.now y is.1))

pub loop-t-preserved : goal.loop-t-preserved
loop-t-preserved c =
    seconds-more c.args.n c.args.s (get_or c.args.seconds.now c.loop-t.t-index 0) c.loop-t.t-index c.args.seconds.now c.args.search.now c.loop-t.search c.strike.new.self
    (slice_get-get_or c.args.seconds.now c.loop-t.t-index 0 c.loop-t-test.true) c.loop-t.invariant c.in_ok-strike.ensures

pub returns : goal.returns
returns c = strikes-same c.args.n _ _ c.args.search.now c.loop-t.search c.loop-t.invariant
    (λ x y is. (is.0, among-any c.args.seconds.now c.loop-t.t-index y is.1))
    (λ x y is. (is.0, among-all c.args.seconds.now c.loop-t.t-index y c.loop-t-test.false is.1))
