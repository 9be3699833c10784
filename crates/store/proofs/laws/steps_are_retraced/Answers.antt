use Rattle.store.proofs.Retraced.{closing-traced, made-retraced, steps-traced, traced-run}
use Rattle.store.proofs.laws.steps_are_retraced.Goals as goal

pub returns-clause-made : goal.returns-clause-made
returns-clause-made c = made-retraced c.command_appends.ensures.accepted

pub returns-clause-run : goal.returns-clause-run
returns-clause-run c = traced-run c.command_appends.ensures.accepted

pub returns-clause-steps : goal.returns-clause-steps
returns-clause-steps c = steps-traced c.command_appends.ensures.accepted

pub returns-clause-closing : goal.returns-clause-closing
returns-clause-closing c =
    closing-traced c.command_appends.ensures.accepted c.run_goes_on.ensures c.summary_after.ensures c.transactions_in_run.ensures c.opens_after.ensures c.beginners_after.ensures
