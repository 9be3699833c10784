use Rattle.serving.proofs.Drains.{begins-at-once}
use Rattle.serving.proofs.laws.no_begin_drains_where_all_goes_over.Goals as goal

pub returns : goal.returns
returns c waits most life old new answer low does = begins-at-once waits most life old new answer low does
