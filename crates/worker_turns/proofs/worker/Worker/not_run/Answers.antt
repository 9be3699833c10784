use Rattle.std.proofs.Common.{◌≡◌, ℕ, ◌+◌, ◌<◌, List, [], ◌∷◌, ◌++◌, length, map, get_or, take, sym, ap, ◌∙◌, arith}
use Rattle.std.proofs.lemmas.List.{take_more, map-append, length-map}
use Rattle.jobs_text.specs.Jobs.{Call}
use Rattle.jobs_text.specs.declared.jobs_file.Job.{Job}
use Rattle.worker_turns.specs.declared.outcome.Outcome.{Outcome}
use Rattle.worker_turns.specs.declared.outcome.Outcome.TheVariants.{NotRun}
use Rattle.worker_turns.proofs.worker.Worker.not_run.Goals as goal

-- the outcomes of jobs that weren't run
abbrev none_run : List (List Call) → List Outcome
none_run jobs = map (λ (job : List Call). NotRun) jobs

-- with one more
not_run-more : (jobs : List (List Call)) (i : ℕ) → i < length jobs → none_run (take i jobs) ++ NotRun ∷ [] ≡ none_run (take (i + 1) jobs)
not_run-more jobs i inside = sym (ap none_run (take_more jobs i [] inside) ∙ map-append (λ (job : List Call). NotRun) (take i jobs) (get_or jobs i [] ∷ []))

pub loop-preserved : goal.loop-preserved
loop-preserved c =
    let kept = c.loop.invariant in
    let jobs = c.loop.self-inside.jobs in
    let as_many : length c.args.self.jobs ≡ length jobs.items = ap length (sym kept.jobs) ∙ length-map jobs.items (λ (job : Job). job.calls.items) in
    let inside : c.loop.counter < length c.args.self.jobs = omega (arith, as_many, jobs.ok.0) in
    record {
      jobs = kept.jobs;
      outcomes =
          c.push_reserved.ensures.items ∙ ap (λ (os : List Outcome). os ++ NotRun ∷ []) kept.outcomes ∙ not_run-more c.args.self.jobs c.loop.counter inside;
      count = omega arith;
      until = kept.until;
      room = omega arith;
      receipts = kept.receipts;
      idle = kept.idle;
      left = kept.left;
    }
