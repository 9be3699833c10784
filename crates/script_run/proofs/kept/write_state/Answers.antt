use Rattle.script_run.proofs.KeptLines.{state-there}
use Rattle.script_run.proofs.kept.write_state.Goals as goal

pub returns-in-Some : goal.returns-in-Some
returns-in-Some g c = record { state = c.in-Some.state; is_kept = c.in-Some.ensures.kept; line = c.write_kept.ensures }

pub returns-in-None : goal.returns-in-None
returns-in-None g c = absurd (state-there c.args.store.now c.args.x c.requires.inside c.in-None.ensures.there)
