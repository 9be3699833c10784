-- The calls so far were made.
use Rattle.std.proofs.Common.{◌≤◌, length, take, vec_capacity}
use Rattle.attempts.specs.Commands.{asked_calls}
use Rattle.attempts.specs.Made.{CallsAreMade}
use Rattle.attempts.proofs.calls.make_calls.Given as goal

abbrev pub invariant-loop-at : goal.invariant-loop-at
invariant-loop-at g l =
    CallsAreMade l.fn.store l.fn.w l.fn.t (take l.at (asked_calls l.calls)) l.operations.items l.store × (length l.calls ≤ vec_capacity l.operations)
