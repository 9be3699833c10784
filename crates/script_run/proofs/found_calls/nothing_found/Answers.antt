use Rattle.script_run.proofs.FoundCalls.{AreRemembered-nothing}
use Rattle.script_run.proofs.found_calls.nothing_found.Goals as goal

pub returns : goal.returns
returns c = λ objects names. AreRemembered-nothing objects names 4096
