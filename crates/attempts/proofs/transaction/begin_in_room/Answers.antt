use Rattle.attempts.proofs.Attempts.{begins-in-room, refused-in-room}
use Rattle.attempts.proofs.transaction.begin_in_room.Goals as goal

pub returns-clause-begun : goal.returns-clause-begun
returns-clause-begun g c = λ calls room.
    begins-in-room c.summary_after.ensures c.transactions_in_run.ensures c.opens_after.ensures c.args.store.now c.begin.new.self c.args.w c.history.ensures.run c.begin.result
    c.begin.ensures.number c.begin.ensures.step calls room

pub returns-clause-refused : goal.returns-clause-refused
returns-clause-refused g c = λ calls room. refused-in-room c.args.store.now c.begin.new.self c.args.w c.begin.result c.begin.ensures.step calls room
