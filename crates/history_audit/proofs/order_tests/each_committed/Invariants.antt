-- Those so far committed, each once, and are marked.
use Rattle.std.proofs.Common.{◌<◌, length, take}
use Rattle.std.specs.List.{AllByRecursion}
use Rattle.history_audit.specs.Commits.{numbers}
use Rattle.history_audit.specs.InOrder.{AreCommitted}
use Rattle.history_audit.specs.OrderTests.{AreMarked}
use Rattle.history_audit.proofs.order_tests.each_committed.Given as goal

abbrev pub invariant-loop-t : goal.invariant-loop-t
invariant-loop-t l = record {
  each : AreCommitted (numbers l.committed) (take l.t-index l.order);
  marked : AreMarked (take l.t-index l.order) l.there.items;
  above : AllByRecursion (λ c. c.number < length l.there.items) l.committed;
}
