use Rattle.carried_runs.proofs.FirstEvents.{meaning-at, objects-next}
use Rattle.std.proofs.Common.{arith}
use Rattle.carried_runs.proofs.first_events.carried_events.Goals as goal

pub add_carried-requires-clause-short : goal.add_carried-requires-clause-short
add_carried-requires-clause-short g c κs within =
    c.requires.short c.loop-x.x (g.R.Recovery.meaning c.index-objects-x.result)
    (meaning-at g.R.Recovery.meaning c.args.objects.now c.loop-x.x c.index-objects-x.result (omega arith) c.index-objects-x.is)

pub loop-x-preserved : goal.loop-x-preserved
loop-x-preserved g c =
    objects-next g.R.Recovery.meaning (λ _. c.args.w) c.args.those.now c.args.objects.now c.loop-x.x c.index-objects-x.result c.loop-x.events.items c.add_carried.new.events.items
    (omega arith) c.index-objects-x.is c.loop-x.invariant c.in_ok-add_carried.ensures
