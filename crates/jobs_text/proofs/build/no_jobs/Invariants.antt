-- There are as many lists as rounds so far, and each is empty.
use Rattle.std.proofs.Common.{◌≡◌, ◌≤◌, [], length}
use Rattle.std.specs.List.{AllByRecursion}
use Rattle.jobs_text.proofs.build.no_jobs.Given as goal

abbrev pub invariant-loop : goal.invariant-loop
invariant-loop l = (length l.lists.items ≡ l.counter) × (l.counter ≤ l.workers) × AllByRecursion (λ list. list.items ≡ []) l.lists.items
