use Rattle.carried_runs.proofs.FirstEvents.{is-place, is-none}
use Rattle.carried_orders.proofs.Stepping.{others-isnt}
use Rattle.carried_orders.proofs.merging.carried_number.Goals as goal

pub returns-in-Ok-clause-mine : goal.returns-in-Ok-clause-mine
returns-in-Ok-clause-mine c =
    let place = is-place c.args.those.now c.args.entry.now.by c.in-Ok.i c.requires c.in-Ok.ensures.position in
    (place.0, c.if-entry.false, place.1)

pub returns-in-Err-clause-other : goal.returns-in-Err-clause-other
returns-in-Err-clause-other c = others-isnt c.args.those.now c.args.entry.now (is-none c.args.those.now c.args.entry.now.by c.in-Err.field-0 c.requires c.in-Err.ensures.position)
