-- There is a worker for each list so far, and the others are still to come.
use Rattle.std.proofs.Common.{◌≡◌, ℕ, ◌+◌, ◌≤◌, length, map, take, drop, Some, slice_get, vec_len, vec_capacity}
use Rattle.std.specs.Vec.Iter.{into_iter_items, into_iter_len}
use Rattle.jobs_text.specs.Jobs.{calls_in}
use Rattle.worker_turns.specs.Progress.{Progress, IsUnstarted}
use Rattle.workers.proofs.team.workers_of.Given as goal

abbrev pub invariant-loop-list : goal.invariant-loop-list
invariant-loop-list l = record {
  coming : into_iter_items l.list-iterator ≡ drop (vec_len l.workers) l.fn.jobs.items;
  left : vec_len l.workers + into_iter_len l.list-iterator ≡ length l.fn.jobs.items;
  jobs : map (λ (p : Progress). p.jobs) l.workers.items ≡ map calls_in (take (vec_len l.workers) l.fn.jobs.items);
  fresh : (w : ℕ) (p : Progress) → slice_get l.workers.items w ≡ Some p → IsUnstarted p × (p.tries ≡ l.fn.tries);
  room : length l.fn.jobs.items ≤ vec_capacity l.workers;
}
