use Rattle.std.proofs.Common.{map}
use Rattle.carried_runs.specs.Redo.{AreRedone}
use Rattle.carried_runs.proofs.redoing.redo.Given as goal

abbrev pub invariant-loop-event : goal.invariant-loop-event
invariant-loop-event g l = AreRedone (map g.R.Recovery.meaning l.fn.objects.items) (map g.R.Recovery.meaning l.objects.items) l.events l.event-index
