use Rattle.std.proofs.Common.{arith}
use Rattle.exact_tables.proofs.Strikes.{strikes-none}
use Rattle.exact_tables.proofs.Loops.{strikes-inside, told_of-more}
use Rattle.exact_tables.proofs.rounds.first_round.Goals as goal

pub loop-s-init : goal.loop-s-init
loop-s-init c = strikes-none 1 _ c.args.search.now (λ x y x_in y_in is. absurd (omega (arith, is.0)))

pub loop-s-preserved : goal.loop-s-preserved
loop-s-preserved c = told_of-more c.args.table.now c.loop-s.s c.args.search.now c.loop-s.search c.first_of.new.search c.loop-s.invariant c.in_ok-first_of.ensures

pub returns : goal.returns
returns c = strikes-inside 1 _ _ c.args.search.now c.loop-s.search c.loop-s.invariant
    (λ x y is. is.1)
    (λ x y x_in y_in is. (omega (arith, x_in, c.requires, c.states-s-end.ensures.exact, c.loop-s-test.false), is))
