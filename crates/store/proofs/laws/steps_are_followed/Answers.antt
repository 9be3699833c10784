use Rattle.store.proofs.OwnHistories.{asked-followed, closing-own, steps-own}
use Rattle.store.proofs.laws.steps_are_followed.Goals as goal

pub returns-clause-asked : goal.returns-clause-asked
returns-clause-asked c = asked-followed

pub returns-clause-steps : goal.returns-clause-steps
returns-clause-steps c = steps-own

pub returns-clause-closing : goal.returns-clause-closing
returns-clause-closing c =
    closing-own c.run_goes_on.ensures c.summary_after.ensures c.transactions_in_run.ensures c.opens_after.ensures c.beginners_after.ensures
