use Rattle.serial_order.proofs.Allows.{machine_may_apply}
use Rattle.serial_order.proofs.laws.machine_may_apply.Goals as goal

-- an operation that the machine allows may be executed
pub returns : goal.returns
returns c = machine_may_apply c.runs_along.ensures
