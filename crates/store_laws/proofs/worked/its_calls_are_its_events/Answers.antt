use Rattle.store_laws.proofs.Examples.{counts-by_law, takes_back-by_law, commits-by_law}
use Rattle.store_laws.proofs.worked.its_calls_are_its_events.Goals as goal

-- by the law of each kind of event
pub returns-clause-counts : goal.returns-clause-counts
returns-clause-counts c = λ accepted. counts-by_law c.op_moves.ensures (c.it_goes_on_agreeing.ensures.begun accepted)

pub returns-clause-takes_back : goal.returns-clause-takes_back
returns-clause-takes_back c = λ accepted. takes_back-by_law c.rollback_moves.ensures (c.it_goes_on_agreeing.ensures.counted accepted)

pub returns-clause-commits : goal.returns-clause-commits
returns-clause-commits c = λ accepted. commits-by_law c.end_moves.ensures (c.it_goes_on_agreeing.ensures.counted accepted)
