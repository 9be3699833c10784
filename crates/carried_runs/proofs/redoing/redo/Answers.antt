use Rattle.std.proofs.Common.{map}
use Rattle.carried_runs.proofs.Repeating.{may-redo, redo-next}
use Rattle.carried_runs.proofs.redoing.redo.Goals as goal

pub redo_one-requires-after_bounds : goal.redo_one-requires-after_bounds
redo_one-requires-after_bounds g c κs within =
    may-redo (map g.R.Recovery.meaning c.args.objects.now.items) (map g.R.Recovery.meaning c.loop-event.objects.items) c.args.events.now c.loop-event.event-index c.event-item.result
    c.requires.run c.requires.works c.loop-event.invariant c.loop-event-test.true c.event-item.is c.machine_may_apply.ensures c.logs_are_counted.ensures c.requires.room

pub loop-event-preserved : goal.loop-event-preserved
loop-event-preserved g c =
    redo-next (map g.R.Recovery.meaning c.args.objects.now.items) (map g.R.Recovery.meaning c.loop-event.objects.items) c.args.events.now c.loop-event.event-index c.event-item.result
    c.requires.run c.requires.works c.loop-event.invariant c.loop-event-test.true c.event-item.is c.represents_on.ensures (map g.R.Recovery.meaning c.redo_one.new.objects.items) c.in_ok-redo_one.ensures
