use Rattle.std.proofs.Common.{◌∙◌, ap, arith}
use Rattle.std.proofs.lemmas.List.{take_all}
use Rattle.store.proofs.DoneAgain.{may-redo-next, with_history}
use Rattle.store.proofs.TracedAgain.{redone-traced}
use Rattle.store.proofs.store.Store.redone.Goals as goal

pub redo-requires-clause-run : goal.redo-requires-clause-run
redo-requires-clause-run g c κs within =
    (may-redo-next c.room_after.ensures c.args.self c.args.events.now c.loop-event.event-index c.event-item.result
    (record { run = c.requires.run; works = c.requires.works; new = c.requires.new; room = c.requires.room; few = c.requires.few })
    c.loop-event-test.true c.event-item.is c.loop-event.self c.loop-event.invariant).run

pub redo-requires-clause-room : goal.redo-requires-clause-room
redo-requires-clause-room g c κs within =
    (may-redo-next c.room_after.ensures c.args.self c.args.events.now c.loop-event.event-index c.event-item.result
    (record { run = c.requires.run; works = c.requires.works; new = c.requires.new; room = c.requires.room; few = c.requires.few })
    c.loop-event-test.true c.event-item.is c.loop-event.self c.loop-event.invariant).room

pub redo-requires-clause-few : goal.redo-requires-clause-few
redo-requires-clause-few g c κs within =
    (may-redo-next c.room_after.ensures c.args.self c.args.events.now c.loop-event.event-index c.event-item.result
    (record { run = c.requires.run; works = c.requires.works; new = c.requires.new; room = c.requires.room; few = c.requires.few })
    c.loop-event-test.true c.event-item.is c.loop-event.self c.loop-event.invariant).few

pub returns-clause-traced : goal.returns-clause-traced
returns-clause-traced g c =
    redone-traced c.room_after.ensures c.args.self c.loop-event.self c.args.events.now
    (record { run = c.requires.run; works = c.requires.works; new = c.requires.new; room = c.requires.room; few = c.requires.few })
    (c.loop-event.invariant ∙ ap (with_history c.args.self) (take_all c.loop-event.event-index c.args.events.now (omega (arith, c.loop-event-test.false))))
