-- The least of the first ones that isn't marked, or all of these are.
use Rattle.std.proofs.Common.{MatchOption, take}
use Rattle.history_audit.specs.Commits.{numbers}
use Rattle.history_audit.specs.OrderTests.{AllMarked, IsLeastUnmarked}
use Rattle.history_audit.proofs.order_tests.least_unmarked.Given as goal

abbrev pub invariant-loop-committed : goal.invariant-loop-committed
invariant-loop-committed l = MatchOption l.least (AllMarked (take l.committed-index (numbers l.these)) l.there) (IsLeastUnmarked (take l.committed-index (numbers l.these)) l.there)
