use Rattle.store.proofs.Replays.{turn-made}
use Rattle.store.proofs.event_replay.replay.Goals as goal

pub loop-at-preserved : goal.loop-at-preserved
loop-at-preserved g c =
    turn-made c.args.store.now c.loop-at.store c.args.events.now c.loop-at.at c.index-events-at.result c.index-events-at.result c.loop-at.invariant.0 c.loop-at.invariant.1 c.loop-at-test.true c.index-events-at.is c.follow.new.store c.in_default.ensures
