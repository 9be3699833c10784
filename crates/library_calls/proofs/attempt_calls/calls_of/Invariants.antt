-- The calls so far are the pairs so far.
use Rattle.std.proofs.Common.{◌≡◌, map}
use Rattle.attempts.specs.Commands.{asked_calls}
use Rattle.library_calls.proofs.AttemptRooms.{call_read, pair_read}
use Rattle.library_calls.proofs.attempt_calls.calls_of.Given as goal

abbrev pub invariant-loop-at : goal.invariant-loop-at
invariant-loop-at l = asked_calls l.calls.items ≡ map call_read (map pair_read l.yielded)
