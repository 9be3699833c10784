-- The first so many are marked.
use Rattle.std.proofs.Common.{◌-◌, length, take}
use Rattle.history_audit.specs.Commits.{numbers}
use Rattle.history_audit.specs.OrderTests.{AllMarked}
use Rattle.history_audit.proofs.order_tests.advanced.Given as goal

abbrev pub invariant-front : goal.invariant-front
invariant-front l = AllMarked (take l.front (numbers l.these)) l.there

abbrev pub decreases-front : goal.decreases-front
decreases-front l = length l.these - l.front
