-- The calls so far were made, and their operations are in the room.
use Rattle.std.proofs.Common.{◌≡◌, take, drop}
use Rattle.store_laws.specs.Stored.{objects}
use Rattle.attempts.specs.Made.{CallsAreMade}
use Rattle.attempts.specs.Numbered.{named_calls}
use Rattle.library_calls.proofs.attempt_numbers.make_numbered.Given as goal

abbrev pub invariant-loop-at : goal.invariant-loop-at
invariant-loop-at l =
    record {
      made : CallsAreMade l.fn.store l.fn.w l.fn.t (take l.at (named_calls (objects l.fn.store) l.xs l.calls)) (take l.at l.room) l.store;
      rest : drop l.at l.room ≡ drop l.at l.fn.room;
    }
