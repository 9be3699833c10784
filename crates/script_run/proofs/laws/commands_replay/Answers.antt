use Rattle.script_run.proofs.Histories.{commands-replay, command-replays}
use Rattle.script_run.proofs.laws.commands_replay.Goals as goal

pub returns : goal.returns
returns c = record { all = commands-replay; each = command-replays }
