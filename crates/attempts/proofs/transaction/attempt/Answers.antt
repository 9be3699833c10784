use Rattle.std.proofs.Common.{length}
use Rattle.attempts.specs.Commands.{asked_calls}
use Rattle.attempts.proofs.OneCall.{only-replays, only-answers, room-still, replays-still, answers-still}
use Rattle.attempts.proofs.transaction.attempt.Goals as goal

pub returns-in-Some-clause-replays : goal.returns-in-Some-clause-replays
returns-in-Some-clause-replays g c =
    only-replays c.args.store.now c.room_for.new.store c.do_only.new.store c.args.w (asked_calls c.args.calls.now) c.in-Some.k c.push_reserved.new.self c.in-Ok.ensures.same c.in-Some.ensures

pub returns-in-Some-clause-answers : goal.returns-in-Some-clause-answers
returns-in-Some-clause-answers g c =
    only-answers c.args.store.now c.room_for.new.store c.do_only.new.store c.args.w (asked_calls c.args.calls.now) c.in-Some.k c.in-Ok.operations.items c.push_reserved.new.self c.in-Ok.ensures.same c.in-Some.ensures
    c.in-Ok.ensures.places.0 c.push_reserved.ensures.items

pub attempt_in_room-requires-clause-room : goal.attempt_in_room-requires-clause-room
attempt_in_room-requires-clause-room g c κs within =
    room-still c.args.store.now c.room_for.new.store c.do_only.new.store c.args.w (asked_calls c.args.calls.now) (length c.args.calls.now) c.in-Ok.ensures.same c.in-None.ensures c.in-Ok.ensures.room

pub returns-in-None-clause-replays : goal.returns-in-None-clause-replays
returns-in-None-clause-replays g c =
    replays-still c.args.store.now c.room_for.new.store c.do_only.new.store c.args.w (asked_calls c.args.calls.now) c.attempt_in_room.new.store c.attempt_in_room.result c.in-Ok.ensures.same c.in-None.ensures
    c.attempt_in_room.ensures.replays

pub returns-in-None-clause-answers : goal.returns-in-None-clause-answers
returns-in-None-clause-answers g c =
    answers-still c.args.store.now c.room_for.new.store c.do_only.new.store c.args.w (asked_calls c.args.calls.now) c.attempt_in_room.new.store c.attempt_in_room.result c.in-Ok.ensures.same c.in-None.ensures
    c.attempt_in_room.ensures.answers
