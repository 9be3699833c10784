-- There is an outcome for each job so far, and room for those of the others; all else is as it was.
use Rattle.std.proofs.Common.{◌≡◌, ◌<◌, ◌≤◌, [], map, take, vec_len, vec_capacity}
use Rattle.jobs_text.specs.Jobs.{calls_in}
use Rattle.worker_turns.specs.declared.outcome.Outcome.TheVariants.{NotRun}
use Rattle.worker_turns.specs.declared.phase.Phase.TheVariants.{Idle}
use Rattle.worker_turns.proofs.worker.Worker.not_run.Given as goal

abbrev pub invariant-loop : goal.invariant-loop
invariant-loop l = record {
  jobs : calls_in l.self-inside.jobs ≡ l.fn.self.jobs;
  outcomes : l.self-inside.outcomes.items ≡ map (λ job. NotRun) (take l.counter l.fn.self.jobs);
  count : vec_len l.self-inside.outcomes ≡ l.counter;
  until : l.end ≡ vec_len l.self-inside.jobs;
  room : vec_len l.self-inside.jobs ≤ vec_capacity l.self-inside.outcomes;
  receipts : l.self-inside.receipts.items ≡ [];
  idle : l.self-inside.phase ≡ Idle;
  left : l.self-inside.broken < l.self-inside.tries;
}
