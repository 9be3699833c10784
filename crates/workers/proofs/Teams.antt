-- A team with the store of a start.
use Rattle.std.proofs.Common.{◌≡◌, ℕ, ◌<◌, ◌≤◌, true, List, [], length, Some, sym, ap, ◌∙◌, inl, rules, tests, arith}
use Rattle.std.proofs.lemmas.Bool.Decides.{nat_tests}
use Rattle.std.proofs.lemmas.List.{length-map}
use Rattle.jobs_text.specs.Jobs.{Call}
use Rattle.store_laws.specs.Stored.{Stored}
use Rattle.worker_turns.specs.Progress.{Progress}
use Rattle.worker_turns.specs.declared.outcome.Report.{Report}
use Rattle.workers.specs.declared.fault.WorkFault.{WorkFault}
use Rattle.workers.specs.declared.fault.WorkFault.TheVariants.{BadWorkers, BadTries, NoMemory}
use Rattle.workers.specs.declared.team.Team.{Team}
use Rattle.workers.specs.SharedState.{Start}
use Rattle.workers.specs.Worked.{DidNothing, Works, are_workers, are_tries}
use Rattle.workers.specs.SharedCalls.{IsNoTeam, IsTeam, IsAtStart}

-- there are at most 16 workers
workers-few : (n : ℕ) → are_workers n ≡ true → n ≤ 16
workers-few n are = search (rules, tests)

-- and at least one try
tries-some : (n : ℕ) → are_tries n ≡ true → 0 < n
tries-some n are = grind (arith, nat_tests)

pub at_start : (o : Start) (store : Stored) (jobs : List (List (List Call))) (tries : ℕ) (team : Team) → o ≡ record { store = store; jobs = jobs; tries = tries }
    → IsTeam jobs tries team → IsAtStart o store team.workers.items
at_start o store jobs tries team is its =
    let its_jobs : o.jobs ≡ jobs = ap (λ (z : Start). z.jobs) is in
    let its_tries : o.tries ≡ tries = ap (λ (z : Start). z.tries) is in
    let as_many : length team.workers.items ≡ length jobs = sym (length-map team.workers.items (λ (p : Progress). p.jobs)) ∙ ap length its.lists in
    let few = workers-few (length jobs) its.few in
    record {
      is_store = ap (λ (z : Start). z.store) is;
      jobs = its.lists ∙ sym its_jobs;
      fresh = λ w p there. rw its_tries (its.fresh w p there);
      some_tries = rw its_tries (tries-some tries its.some_tries);
      few = omega (arith, as_many, few);
    }

-- nothing was done at the store of a start
pub untouched : (o : Start) (store : Stored) (jobs : List (List (List Call))) (tries : ℕ) (reports : List Report) → o ≡ record { store = store; jobs = jobs; tries = tries }
    → reports ≡ [] → DidNothing o.store store reports
untouched o store jobs tries reports is none = record { store = sym (ap (λ (z : Start). z.store) is); no_reports = none }

-- where there is no team, nothing was done
pub no-team : (o : Start) (store : Stored) (jobs : List (List (List Call))) (n tries : ℕ) (fault : WorkFault) (reports : List Report)
    → o ≡ record { store = store; jobs = jobs; tries = tries } → length jobs ≡ n → IsNoTeam n tries fault → reports ≡ [] → Works o (Some fault) store reports
no-team o store jobs n tries BadWorkers reports is many why none =
    (ap (λ (z : Start). are_workers (length z.jobs)) is ∙ (ap are_workers many ∙ why), untouched o store jobs tries reports is none)
no-team o store jobs n tries BadTries reports is many why none = (
  ap (λ (z : Start). are_workers (length z.jobs)) is ∙ (ap are_workers many ∙ why.0),
  ap (λ (z : Start). are_tries z.tries) is ∙ why.1,
  untouched o store jobs tries reports is none,
)
no-team o store jobs n tries NoMemory reports is many why none = (
  ap (λ (z : Start). are_workers (length z.jobs)) is ∙ (ap are_workers many ∙ why.0),
  ap (λ (z : Start). are_tries z.tries) is ∙ why.1,
  inl (untouched o store jobs tries reports is none),
)
