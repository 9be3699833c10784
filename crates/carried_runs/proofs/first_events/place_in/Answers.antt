use Rattle.carried_runs.proofs.FirstEvents.{is-place, is-none}
use Rattle.carried_runs.proofs.first_events.place_in.Goals as goal

pub returns-in-Ok-clause-mine : goal.returns-in-Ok-clause-mine
returns-in-Ok-clause-mine c = is-place c.args.those.now c.args.t c.in-Ok.place c.requires.ascend c.in-Ok.ensures.position

pub returns-in-Err-clause-other : goal.returns-in-Err-clause-other
returns-in-Err-clause-other c = is-none c.args.those.now c.args.t c.in-Err.field-0 c.requires.ascend c.in-Err.ensures.position
