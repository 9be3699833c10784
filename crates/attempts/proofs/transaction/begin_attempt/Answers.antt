use Rattle.attempts.proofs.Attempts.{behind-refused}
use Rattle.attempts.proofs.transaction.begin_attempt.Goals as goal

pub returns-clause-refused : goal.returns-clause-refused
returns-clause-refused g c =
    behind-refused c.args.store.now c.make_event_room.new.store c.begin_in_room.new.store c.args.w c.make_event_room.ensures.same c.args.calls c.in_ok-make_event_room.ensures.room
    c.begin_in_room.result c.begin_in_room.ensures.refused
