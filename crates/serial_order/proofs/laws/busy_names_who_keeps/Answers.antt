use Rattle.serial_order.proofs.Waiting.{busy_names_who_keeps}
use Rattle.serial_order.proofs.laws.busy_names_who_keeps.Goals as goal

pub returns : goal.returns
returns c = busy_names_who_keeps c.runs_along.ensures
