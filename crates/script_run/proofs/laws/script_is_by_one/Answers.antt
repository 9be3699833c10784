use Rattle.script_run.proofs.HistoryLines.{script-mine}
use Rattle.script_run.proofs.laws.script_is_by_one.Goals as goal

pub returns : goal.returns
returns c = script-mine
