-- What comes back where each worker that was let in is at its end.
use Rattle.std.proofs.Common.{◌≡◌, ℕ, ◌≤◌, false, List, [], ◌++◌, length, Some, slice_get, sym, ap, ◌∙◌, subst, inl, inr, append-nil, arith}
use Rattle.std.proofs.lemmas.Bool.{cases_Bool, cases_lt}
use Rattle.std.proofs.lemmas.List.{length-map}
use Rattle.type_table.proofs.Elements.{found-map}
use Rattle.object_trait.specs.Object.{Object}
use Rattle.object_trait.specs.declared.event.Event.{Event}
use Rattle.serial_order.specs.History.{begins, summary, is_open}
use Rattle.store_laws.specs.Stored.{objects}
use Rattle.jobs_text.specs.Jobs.{Call}
use Rattle.worker_turns.specs.declared.outcome.Report.{Report}
use Rattle.worker_turns.specs.Parts.{AreParts, AreBroken}
use Rattle.worker_turns.specs.Progress.{Progress, IsTold, IsAtEnd, IsSoFar, receipt_kinds, current_job}
use Rattle.workers.specs.Events.{IsReplayed}
use Rattle.workers.specs.SharedState.{Start, SharedState, HasOwner, IsWorker, IsKeptSince, HasEnded}
use Rattle.workers.specs.Worked.{IsReport, IsOfNone, IsReportOf, AreReportsOf, HasWorked, EndingIsWorked}
use Rattle.workers.proofs.Starts.{idle-none}

-- at the end the receipts are the parts of the jobs
ended-parts : (types : List Object) (p : Progress) → IsTold types p → IsAtEnd p → AreParts types p.tries p.jobs p.outcomes (receipt_kinds p.receipts)
ended-parts types p told end =
    let idle = told.idle end in
    let none_behind : told.behind ≡ [] = subst (λ k. AreBroken types (current_job p) k told.behind) idle.1 told.are_broken in
    let none_now : told.now ≡ [] = subst (λ f. IsSoFar types (current_job p) f told.now) idle.0 told.so_far in
    let all : receipt_kinds p.receipts ≡ told.ended =
    told.are ∙ ap (λ l. (told.ended ++ told.behind) ++ l) none_now ∙ append-nil (told.ended ++ told.behind)
    ∙ ap (λ l. told.ended ++ l) none_behind ∙ append-nil told.ended
    in
    subst (AreParts types p.tries p.jobs p.outcomes) (sym all) told.are_parts

-- so is its report
report-ended : (o : Start) (H : List Event) (w : ℕ) (p : Progress) (r : Report) → IsWorker o H w p → IsAtEnd p → IsReportOf p r → IsReport o H w p.jobs r
report-ended o H w p r its end told =
    let happened : receipt_kinds r.receipts.items ≡ receipt_kinds p.receipts = ap receipt_kinds told.receipts in
    record {
      receipts = told.receipts ∙ sym its.receipts;
      as_many = ap length told.outcomes ∙ end;
      parts =
          subst (AreParts (objects o.store) o.tries p.jobs r.outcomes.items) (sym happened)
          (subst (λ os. AreParts (objects o.store) o.tries p.jobs os (receipt_kinds p.receipts)) (sym told.outcomes)
          (subst (λ n. AreParts (objects o.store) n p.jobs p.outcomes (receipt_kinds p.receipts)) its.tries (ended-parts (objects o.store) p its.told end)));
      replayed = λ t inside. subst (IsReplayed H t) (sym happened) (its.replayed t (rw told.outcomes at inside));
      ran = λ inside. its.ran (rw told.outcomes at inside);
      causes = λ reason inside. its.causes reason (rw told.outcomes at inside);
    }

module _ (o : Start) (s : SharedState) (kept : IsKeptSince o s) (ended : (w : ℕ) → HasEnded s w) where
  -- no worker has a transaction open
  none-owned : (t : ℕ) → HasOwner t s.workers → ⊥
  none-owned t owner =
      elim (cases_lt owner.w s.let_in) [
        | inl early ↦
            idle-none owner.p t ((kept.workers owner.w owner.p owner.there).told.idle (ended owner.w owner.p early owner.there)).0 owner.owns
        | inr late ↦ idle-none owner.p t (kept.waiting owner.w owner.p late owner.there).phase owner.owns
      ]

  -- so none that began since the start is open
  none-open : (t : ℕ) → begins o.store.history ≤ t → is_open (summary s.store.history) t ≡ false
  none-open t new =
      elim (cases_Bool (is_open (summary s.store.history) t)) [
        | inl going ↦ absurd (none-owned t (kept.owners t new going))
        | inr closed ↦ closed
      ]

  -- the jobs handed in there are those of the worker there
  worker-there : (w : ℕ) (jobs : List (List Call)) → slice_get o.jobs w ≡ Some jobs → (p : Progress) × (slice_get s.workers w ≡ Some p) × (p.jobs ≡ jobs)
  worker-there w jobs there = found-map (λ (p : Progress). p.jobs) s.workers w jobs (ap (λ l. slice_get l w) kept.jobs ∙ there)

  -- as many as there are workers
  as-many : length s.workers ≡ length o.jobs
  as-many = sym (length-map s.workers (λ (p : Progress). p.jobs)) ∙ ap length kept.jobs

  pub worked : (reports : List Report) → AreReportsOf s reports → HasWorked o s.let_in s.store reports
  worked reports told = record {
    store = kept.store;
    history = kept.goes_on;
    inside = kept.inside;
    ended = none-open;
    are_reports = record {
      as_many = told.as_many ∙ as-many;
      few = let all = as-many in let inside = kept.few_let_in in omega (arith, all, inside);
      started = λ w jobs r early there found.
          let its = worker-there w jobs there in
          subst (λ js. IsReport o s.store.history w js r) its.2
          (report-ended o s.store.history w its.0 r (kept.workers w its.0 its.1) (ended w its.0 early its.1) (told.started w its.0 r early its.1 found));
      others = λ w jobs r late there found.
          let its = worker-there w jobs there in
          subst (λ js. IsOfNone js r) its.2 (told.others w its.0 r late its.1 found);
    };
  }

pub ending_is_worked : EndingIsWorked
ending_is_worked = λ o s reports kept ended told. worked o s kept ended reports told
