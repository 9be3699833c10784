use Rattle.store_laws.proofs.Staying.{stays_kept}
use Rattle.store_laws.proofs.laws.stays_kept.Goals as goal

-- what is kept goes on agreeing with the history
pub returns : goal.returns
returns c =
    stays_kept c.checked_is_covered.ensures c.sound_after_apply.ensures c.sound_after_commit.ensures c.sound_after_strike.ensures
    c.run_goes_on.ensures c.represents_on.ensures c.machine_may_apply.ensures c.logs_are_counted.ensures c.summary_after.ensures
    c.transactions_in_run.ensures c.opens_after.ensures c.own_after.ensures c.beginners_after.ensures
