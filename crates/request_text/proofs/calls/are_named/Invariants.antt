-- What is left decides.
use Rattle.std.proofs.Common.{◌≡◌, map, length}
use Rattle.request_text.specs.Calls.{are_named}
use Rattle.request_text.proofs.calls.are_named.Given as goal

abbrev pub invariant-loop-rest : goal.invariant-loop-rest
invariant-loop-rest l = are_named (map (λ w. w.now) l.words) ≡ are_named (map (λ w. w.now) l.rest)

abbrev pub decreases-loop-rest : goal.decreases-loop-rest
decreases-loop-rest l = length l.rest
