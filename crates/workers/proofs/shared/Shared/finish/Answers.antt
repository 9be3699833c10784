-- Each turn leaves the others, and takes one from those that are left.
use Rattle.workers.proofs.Doings.{steps-leave, leaves-on, turn-fewer_at}
use Rattle.workers.proofs.shared.Shared.finish.Goals as goal

pub loop-smaller : goal.loop-smaller
loop-smaller g c =
    let stepped = c.step.ensures in
    let turn = stepped.going c.loop-test.true in
    turn-fewer_at c.loop.self c.args.w c.step.new.self turn (stepped.fewer turn)

pub loop-preserved : goal.loop-preserved
loop-preserved g c = leaves-on _ _ _ _ c.loop.invariant (steps-leave _ _ _ _ c.step.ensures)

pub returns-clause-others : goal.returns-clause-others
returns-clause-others g c = leaves-on _ _ _ _ c.loop.invariant (steps-leave _ _ _ _ c.step.ensures)
