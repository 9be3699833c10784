use Rattle.worker_turns.proofs.Purses.{four-reply, place-no_reply}
use Rattle.worker_turns.proofs.worked.a_job_takes_any_amount.Goals as goal

pub returns-clause-reply : goal.returns-clause-reply
returns-clause-reply c = four-reply 3 c.names_at_the_purse.ensures.any

pub returns-clause-no_amount : goal.returns-clause-no_amount
returns-clause-no_amount c = place-no_reply 3 c.names_at_the_purse.ensures.any
