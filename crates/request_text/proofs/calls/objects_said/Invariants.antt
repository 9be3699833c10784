-- The objects so far, and those of what is left.
use Rattle.std.proofs.Common.{◌≡◌, ◌++◌, map, length}
use Rattle.request_text.specs.Calls.{objects_said}
use Rattle.request_text.proofs.calls.objects_said.Given as goal

abbrev pub invariant-loop-rest : goal.invariant-loop-rest
invariant-loop-rest l = l.objects.items ++ objects_said (map (λ w. w.now) l.rest) ≡ objects_said (map (λ w. w.now) l.words)

abbrev pub decreases-loop-rest : goal.decreases-loop-rest
decreases-loop-rest l = length l.rest
