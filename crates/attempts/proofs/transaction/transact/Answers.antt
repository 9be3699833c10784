use Rattle.attempts.specs.Commands.{asked_calls}
use Rattle.attempts.proofs.transaction.transact.Goals as goal

pub returns-in-Ok : goal.returns-in-Ok
returns-in-Ok g c = c.in-Ok.ensures.ends c.args.store.now (asked_calls c.args.calls.now) c.make_calls-made.new.operations.items c.make_calls-made.ensures

pub returns-in-Err : goal.returns-in-Err
returns-in-Err g c = c.in-Err.ensures.ends c.args.store.now (asked_calls c.args.calls.now) c.make_calls-made.new.operations.items c.make_calls-made.ensures
