use Rattle.std.proofs.Common.{◌≡◌, map, take}
use Rattle.carried_runs.specs.Carried.{carried_by, carried_of_logs}
use Rattle.carried_runs.proofs.first_events.carried_events.Given as goal

abbrev pub invariant-loop-x : goal.invariant-loop-x
invariant-loop-x g l = l.events.items ≡ carried_by (λ _. l.w) l.those (carried_of_logs 0 l.those (map g.R.Recovery.meaning (take l.x l.objects)))
