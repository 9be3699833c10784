use Rattle.workers.proofs.Kept.{turns_are_kept}
use Rattle.workers.proofs.laws.turns_are_kept.Goals as goal

-- what is known after a turn
pub returns : goal.returns
returns c =
    turns_are_kept c.summary_after.ensures c.transactions_in_run.ensures c.opens_after.ensures c.own_after.ensures c.beginners_after.ensures
    c.turns_are_told.ensures
