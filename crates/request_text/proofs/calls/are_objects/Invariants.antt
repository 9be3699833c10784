-- What is left decides.
use Rattle.std.proofs.Common.{◌≡◌, map, length}
use Rattle.std.specs.List.{list_all}
use Rattle.request_text.specs.Calls.{says_object}
use Rattle.request_text.proofs.calls.are_objects.Given as goal

abbrev pub invariant-loop-rest : goal.invariant-loop-rest
invariant-loop-rest l = list_all says_object (map (λ w. w.now) l.words) ≡ list_all says_object (map (λ w. w.now) l.rest)

abbrev pub decreases-loop-rest : goal.decreases-loop-rest
decreases-loop-rest l = length l.rest
