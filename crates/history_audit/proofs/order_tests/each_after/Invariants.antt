-- Those so far come after what precedes them, and are marked; and so are the first that committed.
use Rattle.std.proofs.Common.{◌<◌, length, take, ℕ}
use Rattle.std.specs.List.{AllByRecursion}
use Rattle.history_audit.specs.Commits.{numbers}
use Rattle.history_audit.specs.OrderTests.{AllMarked, AreMarked, KeepsDatesAt}
use Rattle.history_audit.proofs.order_tests.each_after.Given as goal

abbrev pub invariant-loop-u : goal.invariant-loop-u
invariant-loop-u l = record {
  marked : AreMarked (take l.u-index l.order) l.there.items;
  front : AllMarked (take l.front (numbers l.committed)) l.there.items;
  kept : (n : ℕ) → n < l.u-index → KeepsDatesAt (numbers l.committed) l.dates l.order n;
  above : AllByRecursion (λ c. c.number < length l.there.items) l.committed;
}
