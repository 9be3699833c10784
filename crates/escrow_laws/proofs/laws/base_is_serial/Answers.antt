use Rattle.escrow_laws.proofs.Happened.{serial_base}
use Rattle.escrow_laws.proofs.laws.base_is_serial.Goals as goal

pub returns : goal.returns
returns c = serial_base c.runs_along.ensures
