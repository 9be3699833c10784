use Rattle.std.proofs.Common.{◌≡◌, ◌-◌, ◌++◌, length, take}
use Rattle.carried_runs.specs.Carried.{again_at}
use Rattle.carried_runs.proofs.first_events.add_carried.Given as goal

abbrev pub invariant-loop-entry : goal.invariant-loop-entry
invariant-loop-entry g l = l.events.items ≡ l.fn.events.items ++ again_at l.x (λ _. l.w) l.those (take l.i (g.R.Recovery.meaning l.object).log)

abbrev pub decreases-loop-entry : goal.decreases-loop-entry
decreases-loop-entry g l = length (g.R.Recovery.meaning l.object).log - l.i
