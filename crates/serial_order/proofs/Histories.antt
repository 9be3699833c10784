-- Runs are histories, and go on.
use Rattle.std.proofs.Common.{List, [], ◌∷◌, ◌++◌, map}
use Rattle.object_trait.specs.Object.{Object}
use Rattle.object_trait.specs.declared.event.Event.{Event}
use Rattle.serial_order.specs.History.{summary, AllContinue}
use Rattle.serial_order.specs.Machine.{RunsOn}
use Rattle.serial_order.specs.Laws.{RunIsHistory, RunGoesOn}
use Rattle.serial_order.proofs.ContinuesHistory.{continues_history}
use Rattle.serial_order.proofs.Runs.{runs_on-snoc}

-- where the machine goes on, a history does
goes_on : (objects : List Object) (before H : List Event) → RunsOn objects before H → AllContinue (map (λ (o : Object). o.table) objects) before H
goes_on objects before [] run = tt
goes_on objects before (e ∷ H) run = (continues_history objects (summary before) e.kind run.0, goes_on objects (before ++ e ∷ []) H run.1)

-- each run is a history
pub run_is_history : RunIsHistory
run_is_history = λ objects H run. goes_on objects [] H run

-- each run goes on by any event that may follow
pub run_goes_on : RunGoesOn
run_goes_on = λ objects H e run may. runs_on-snoc objects [] H e run may
