use Rattle.script_run.proofs.Told.{text-tells}
use Rattle.script_run.proofs.laws.text_tells_history.Goals as goal

pub returns : goal.returns
returns c = text-tells c.command_appends.ensures.accepted
