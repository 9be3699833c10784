use Rattle.committed_reads.proofs.Still.{still_changes_nothing}
use Rattle.committed_reads.proofs.laws.still_changes_nothing.Goals as goal

pub returns : goal.returns
returns c = still_changes_nothing c.steps_within.ensures c.simulation_looks.ensures c.checked_is_covered.ensures
