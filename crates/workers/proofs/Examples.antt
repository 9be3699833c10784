-- What worker 0 noted of its one job.
use Rattle.std.proofs.Common.{◌≡◌, ℕ, zero, suc, List, [], ◌∷◌, subst, refl, arith}
use Rattle.std.specs.List.{Contains}
use Rattle.std.specs.Prelude.{codes}
use Rattle.object_trait.specs.Object.{object_of}
use Rattle.object_trait.specs.declared.event.EventKind.TheVariants.{Op}
use Rattle.serial_order.specs.declared.refusal.Refusal.{Refusal}
use Rattle.store_laws.specs.Stored.{objects}
use Rattle.store_laws.specs.Examples.{undo_counter_type}
use Rattle.jobs_text.specs.Jobs.{Call}
use Rattle.worker_turns.specs.declared.outcome.Outcome.{Outcome}
use Rattle.worker_turns.specs.declared.outcome.Outcome.TheVariants.{Committed, Refused, NotRun}
use Rattle.worker_turns.specs.declared.outcome.Report.{Report}
use Rattle.worker_turns.specs.Parts.{AreParts}
use Rattle.worker_turns.specs.Progress.{receipt_kinds}
use Rattle.workers.specs.Events.{IsReplayed}
use Rattle.workers.specs.Worked.{IsReport}
use Rattle.workers.specs.Examples.{start, after_both, of_first}

-- its one job
abbrev its_job : List Call
its_job = (0, codes "inc:1") ∷ []

-- was tried once
job-done : AreParts (objects start.store) 1 (its_job ∷ []) (Committed 1 ∷ []) (receipt_kinds of_first)
job-done = (
  receipt_kinds of_first,
  [],
  refl,
  record {
    count = 0;
    fewer = omega arith;
    broken = [];
    are_broken = refl;
    last = receipt_kinds of_first;
    is_last = record {
      replies = Op 0 1 0 ∷ [];
      are_replies = (record { o = object_of undo_counter_type; there = refl; c = 0; number = refl; k = 0; of_call = refl; is = refl }, tt);
      is = refl;
    };
    is = refl;
  },
  refl,
)

-- there is one outcome alone
one-outcome : (o p : Outcome) → Contains (o ∷ []) p → o ≡ p
one-outcome o p (zero, low, at) = at
one-outcome o p (suc k, low, at) = absurd (omega (arith, low))

pub first-committed : (r : Report) → r.receipts.items ≡ of_first → r.outcomes.items ≡ Committed 1 ∷ [] → IsReport start after_both 0 (its_job ∷ []) r
first-committed r receipts outcomes = record {
  receipts = receipts;
  as_many = rw outcomes refl;
  parts = rw (outcomes, receipts) job-done;
  ran = λ inside. absurd (committed-ran (one-outcome (Committed 1) NotRun (rw outcomes at inside)));
  replayed = λ t inside.
      rw receipts (subst (λ u. IsReplayed after_both u (receipt_kinds of_first)) (same-number t (one-outcome (Committed 1) (Committed t) (rw outcomes at inside))) (record { committed = (1, omega arith, refl); operations = refl }));
  causes = λ r inside. absurd (committed-refused r (one-outcome (Committed 1) (Refused r) (rw outcomes at inside)));
}
  where
    committed-ran : Committed 1 ≡ NotRun → ⊥
    committed-ran same = cc

    same-number : (t : ℕ) → Committed 1 ≡ Committed t → 1 ≡ t
    same-number t same = cc

    committed-refused : (r : Refusal) → Committed 1 ≡ Refused r → ⊥
    committed-refused r same = cc
