use Rattle.script_run.proofs.FoundCalls.{AreRemembered-set}
use Rattle.script_run.proofs.found_calls.remember.Goals as goal

pub returns : goal.returns
returns c = λ objects names were is. AreRemembered-set objects names c.args.found.now c.place_of.result (record { x = c.args.x; name = c.args.name; call = c.args.call }) were is
