use Rattle.std.proofs.Common.{arith}
use Rattle.carried_runs.proofs.FirstEvents.{is-place}
use Rattle.durable_store.proofs.HeldNumbers.{found-within}
use Rattle.durable_store.proofs.held_list.new_number.Goals as goal

pub overflow_cast-result : goal.overflow_cast-result
overflow_cast-result c =
    let low = found-within c.args.those.now c.args.t c.in-Ok.place c.requires c.in-Ok.ensures.position in
    omega (arith, low, c.ranges.t)

pub returns-in-Ok : goal.returns-in-Ok
returns-in-Ok c = (is-place c.args.those.now c.args.t c.in-Ok.place c.requires c.in-Ok.ensures.position).1
