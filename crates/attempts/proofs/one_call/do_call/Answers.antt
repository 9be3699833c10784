use Rattle.attempts.proofs.OneCall.{named-does}
use Rattle.attempts.proofs.one_call.do_call.Goals as goal

pub returns : goal.returns
returns g c =
    named-does c.summary_after.ensures c.transactions_in_run.ensures c.opens_after.ensures c.replays_join.ensures c.args.store.now c.history.ensures.run c.args.w c.transact_bytes.new.self
    c.args.call.now.at c.args.call.now.name.now c.transact_bytes.result c.transact_bytes.ensures
