use Rattle.attempts.proofs.Transactions.{ends-commit, ends-abort}
use Rattle.attempts.proofs.transaction.end_calls.Goals as goal

pub returns-in-Ok-clause-ends : goal.returns-in-Ok-clause-ends
returns-in-Ok-clause-ends g c = λ s calls ks did.
    ends-commit c.replays_join.ensures s c.args.store.now c.commit.new.self c.args.w c.args.t calls ks c.args.made _ c.in-Ok.is c.commit.ensures.1 did

pub returns-in-Err-clause-ends : goal.returns-in-Err-clause-ends
returns-in-Err-clause-ends g c = λ s calls ks did.
    ends-abort c.replays_join.ensures s c.args.store.now c.abort.new.self c.args.w c.args.t calls ks c.args.made c.in-Err.stop c.in-Err.is c.abort.ensures.1 did
