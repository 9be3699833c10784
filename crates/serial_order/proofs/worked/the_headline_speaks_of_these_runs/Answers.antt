use Rattle.std.proofs.Common.{[], ◌∷◌, map}
use Rattle.type_table.specs.declared.table_kind.TableKind.TheVariants.{Undo, Intentions}
use Rattle.serial_order.specs.Examples.{lock_history, deferred_history, two_objects_history}
use Rattle.serial_order.proofs.Counter.{counter_at, counters-checked}
use Rattle.serial_order.proofs.worked.the_headline_speaks_of_these_runs.Goals as goal

-- the headline, at counters for which the checker says yes and runs of theirs
pub returns-clause-in_place : goal.returns-clause-in_place
returns-clause-in_place c =
    c.checked_headline.ensures (map counter_at (Undo ∷ [])) lock_history (counters-checked (Undo ∷ [])) c.a_rollback_gives_up_the_lock.ensures.runs

pub returns-clause-deferred : goal.returns-clause-deferred
returns-clause-deferred c =
    c.checked_headline.ensures (map counter_at (Intentions ∷ [])) deferred_history (counters-checked (Intentions ∷ [])) c.what_is_not_committed_is_not_seen.ensures.runs

pub returns-clause-both : goal.returns-clause-both
returns-clause-both c =
    c.checked_headline.ensures (map counter_at (Undo ∷ Intentions ∷ [])) two_objects_history (counters-checked (Undo ∷ Intentions ∷ []))
    c.a_rollback_goes_over_two_objects.ensures.runs
