use Rattle.attempts.proofs.OneCall.{numbered-does}
use Rattle.attempts.proofs.one_call.do_call_op.Goals as goal

pub returns : goal.returns
returns g c =
    numbered-does c.summary_after.ensures c.transactions_in_run.ensures c.opens_after.ensures c.replays_join.ensures c.args.store.now c.history.ensures.run c.args.w c.transact_op.new.self
    c.args.x c.args.c c.transact_op.result c.transact_op.ensures
