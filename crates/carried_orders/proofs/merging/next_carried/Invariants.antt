use Rattle.std.proofs.Common.{◌≡◌, ◌-◌, filter, length, take}
use Rattle.carried_runs.specs.Carried.{is_carried}
use Rattle.carried_orders.proofs.merging.next_carried.Given as goal

abbrev pub invariant-loop-entry : goal.invariant-loop-entry
invariant-loop-entry g l = filter (is_carried l.those) (take l.place (g.R.Recovery.meaning l.object).log) ≡ filter (is_carried l.those) (take l.from (g.R.Recovery.meaning l.object).log)

abbrev pub decreases-loop-entry : goal.decreases-loop-entry
decreases-loop-entry g l = length (g.R.Recovery.meaning l.object).log - l.place
