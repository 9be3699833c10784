-- The calls so far, and those of what is left.
use Rattle.std.proofs.Common.{◌≡◌, ◌++◌, map, length}
use Rattle.request_text.specs.Calls.{calls_said}
use Rattle.request_text.proofs.calls.calls_said.Given as goal

abbrev pub invariant-loop-rest : goal.invariant-loop-rest
invariant-loop-rest l = l.calls.items ++ calls_said (map (λ w. w.now) l.rest) ≡ calls_said (map (λ w. w.now) l.words)

abbrev pub decreases-loop-rest : goal.decreases-loop-rest
decreases-loop-rest l = length l.rest
