-- What is left decides.
use Rattle.std.proofs.Common.{◌≡◌, map, length}
use Rattle.request_text.specs.Calls.{say_objects}
use Rattle.request_text.proofs.calls.say_objects.Given as goal

abbrev pub invariant-loop-rest : goal.invariant-loop-rest
invariant-loop-rest l = say_objects (map (λ w. w.now) l.words) ≡ say_objects (map (λ w. w.now) l.rest)

abbrev pub decreases-loop-rest : goal.decreases-loop-rest
decreases-loop-rest l = length l.rest
