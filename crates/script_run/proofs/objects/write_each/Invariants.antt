-- The lines so far are turns that were written.
use Rattle.std.proofs.Common.{map, Ok, take}
use Rattle.store_laws.specs.Stored.{Stored}
use Rattle.script_run.specs.Turns.{object_turn}
use Rattle.script_run.specs.Runs.{Writes}
use Rattle.script_run.proofs.objects.write_each.Given as goal

abbrev pub invariant-loop-object : goal.invariant-loop-object
invariant-loop-object g l =
    (s : Stored) → Writes s (map (object_turn s.history) (take l.object-index l.objects)) (g.W.Out.taken l.fn.out) (g.W.Out.taken l.out) (g.W.Out.fault l.out) s (Ok tt)
