-- There is a report of each worker so far, and the others are still to come.
use Rattle.std.proofs.Common.{◌≡◌, ◌+◌, ◌≤◌, length, take, drop, vec_len, vec_capacity}
use Rattle.std.specs.Vec.Iter.{into_iter_items, into_iter_len}
use Rattle.workers.specs.Worked.{AreReportsOf}
use Rattle.workers.proofs.shared.Shared.into_reports.Given as goal

abbrev pub invariant-loop-worker : goal.invariant-loop-worker
invariant-loop-worker g l = record {
  coming : into_iter_items l.worker-iterator ≡ drop (vec_len l.reports) l.fn.self.workers;
  left : vec_len l.reports + into_iter_len l.worker-iterator ≡ length l.fn.self.workers;
  told : AreReportsOf (record l.fn.self { workers = take (vec_len l.reports) l.fn.self.workers }) l.reports.items;
  room : length l.fn.self.workers ≤ vec_capacity l.reports;
}
