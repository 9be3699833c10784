-- What is known whenever the lock is free, after a turn of a worker.
use Rattle.std.proofs.Common.{◌≡◌, ℕ, ◌+◌, ◌<◌, ◌≤◌, true, cond, List, [], ◌∷◌, ◌++◌, length, set, Option, Some, None, is_some, slice_get, refl, sym, ap, ◌∙◌, subst, inl, inr, arith}
use Rattle.std.proofs.lemmas.Bool.{cases_eq}
use Rattle.std.proofs.lemmas.List.{length-set, length-map}
use Rattle.std.proofs.lemmas.List.Elements.{All-push}
use Rattle.std.proofs.lemmas.Option.{same_Some}
use Rattle.object_trait.specs.declared.event.Event.{Event}
use Rattle.object_trait.specs.declared.event.EventKind.{EventKind}
use Rattle.serial_order.specs.History.{summary, is_open}
use Rattle.serial_order.specs.Machine.{IsRun}
use Rattle.serial_order.specs.Replay.{open_count}
use Rattle.serial_order.specs.After.{SummaryAfter, TransactionsInRun, OpensAfter, BeginnersAfter}
use Rattle.serial_order.specs.Held.{OwnAfter}
use Rattle.store_laws.specs.Stored.{Stored, objects}
use Rattle.store.specs.Calls.{noted}
use Rattle.worker_turns.specs.declared.phase.Phase.TheVariants.{Idle}
use Rattle.worker_turns.specs.Progress.{Progress, IsTold, IsUnstarted, IsAtEnd, open_in_phase}
use Rattle.worker_turns.specs.Turns.{Turns, HasOpen, TurnsAreTold}
use Rattle.workers.specs.SharedState.{Start, SharedState, past, is_going, IsWorker, IsKeptSince, TakesTurn, TurnsAreKept}
use Rattle.workers.proofs.Events.{past-more, goes_on-more}
use Rattle.workers.proofs.Follows.{Follows, follows}
use Rattle.workers.proofs.Lists.{found-set, found-others, map-set_alike, count-fewer}
use Rattle.workers.proofs.Own.{event}
use Rattle.workers.proofs.Owners.{open-whose, going-counts, owner-own, owner-other, owner-same, going-after}
use Rattle.workers.proofs.Told.{own-worker, other-worker, others-apart, quiet-worker}
use Rattle.workers.proofs.Turned.{IsNoted, IsQuiet, turned}

-- a transaction that a worker has open is open
pub has-open : (H : List Event) (own : Option ℕ) → ((t : ℕ) → own ≡ Some t → is_open (summary H) t ≡ true) → HasOpen H own
has-open H None known = tt
has-open H (Some t) known = known t refl

module _ (o : Start) (s : SharedState) (kept : IsKeptSince o s) (w : ℕ) (let_in : w < s.let_in) (p : Progress) (there : slice_get s.workers w ≡ Some p) (q : Progress) where
  -- of the worker before its turn
  its : IsWorker o s.store.history w p
  its = kept.workers w p there

  -- with what it has now
  turned-at : Stored → SharedState
  turned-at store = record { store = store; workers = set s.workers w q; let_in = s.let_in }

  -- a worker after the turn is that one, or as it was
  who : (P : ℕ → Progress → Type 0) → P w q → ((v : ℕ) (r : Progress) → (w ≡ v → ⊥) → slice_get s.workers v ≡ Some r → P v r)
      → (v : ℕ) (r : Progress) → slice_get (set s.workers w q) v ≡ Some r → P v r
  who P own others v r now =
      elim (cases_eq v w) [
        | inl same ↦
            let is : q ≡ r = same_Some q r (sym (found-set s.workers w p q there) ∙ ap (slice_get (set s.workers w q)) (sym same) ∙ now) in
            subst (λ k. P k r) (sym same) (subst (P w) is own)
        | inr other ↦ others v r (λ same. other (sym same)) (sym (found-others s.workers w q v other) ∙ now)
      ]

  -- those that weren't let in did nothing
  waiting-after : (v : ℕ) (r : Progress) → s.let_in ≤ v → slice_get (set s.workers w q) v ≡ Some r → IsUnstarted r
  waiting-after v r late now = who (λ k z. s.let_in ≤ k → IsUnstarted z) (λ early. absurd (omega (arith, early, let_in))) (λ k z other old early. kept.waiting k z early old) v r now late

  -- fewer are going than there are workers, where this one isn't
  few-going : p.phase ≡ Idle → open_count (summary s.store.history) < open_count (summary o.store.history) + length o.jobs
  few-going idle =
      let fewer = count-fewer is_going s.workers w p there (ap (λ f. is_some (open_in_phase f)) idle) in
      let as_many : length s.workers ≡ length o.jobs = sym (length-map s.workers (λ (r : Progress). r.jobs)) ∙ ap length kept.jobs in
      let now = kept.open_now in
      omega (arith, fewer, as_many, now)

  -- after a turn with an event
  after-noted : (happened : EventKind) → Follows s.store.history (event w happened) → IsNoted o s.store.history w happened p q → IsTold (objects o.store) q
      → IsKeptSince o (turned-at (noted s.store w happened))
  unfolding turned-at its
  after-noted happened last told_it told =
      let H = s.store.history in
      let e = event w happened in
      record {
        store = ap (λ (z : Stored). record z { history = H ++ e ∷ [] }) kept.store;
        goes_on = goes_on-more o H kept.goes_on e;
        jobs = map-set_alike (λ (r : Progress). r.jobs) s.workers w p q there told_it.jobs ∙ kept.jobs;
        workers = who (IsWorker o (H ++ e ∷ []))
            (own-worker o H kept.goes_on w happened last p q its told_it told)
            (λ v r other old.
            other-worker o H kept.goes_on w happened last v r other
            (others-apart o H kept.goes_on w happened p q its told_it v r (kept.workers v r old) other) (kept.workers v r old));
        waiting = waiting-after;
        inside = rw (past-more o H kept.goes_on e) (All-push (λ (f : Event). f.worker < s.let_in) (past o H) e kept.inside let_in);
        owners = λ t new open_now.
            elim (open-whose (summary H) happened (open_in_phase p.phase) (open_in_phase q.phase) told_it.leads t (sym (last.opened t) ∙ open_now)) [
              | inl own ↦ owner-own s.workers w p q there t own
              | inr old ↦ owner-other s.workers w p q there t (kept.owners t new old.0) old.1
            ];
        open_now =
            going-after s.workers w p q there (open_count (summary H)) (open_count (summary (H ++ e ∷ []))) (open_count (summary o.store.history)) kept.open_now
            (going-counts happened (open_in_phase p.phase) (open_in_phase q.phase) told_it.leads _ _ last.counts);
        few_let_in = rw (length-set s.workers w q) kept.few_let_in;
        few = rw (length-set s.workers w q) kept.few;
      }

  -- after a turn with none
  after-quiet : IsQuiet o s.store.history p q → IsTold (objects o.store) q → IsKeptSince o (turned-at s.store)
  unfolding turned-at its
  after-quiet quiet told =
      let H = s.store.history in
      record {
        store = kept.store;
        goes_on = kept.goes_on;
        jobs = map-set_alike (λ (r : Progress). r.jobs) s.workers w p q there quiet.jobs ∙ kept.jobs;
        workers = who (IsWorker o H) (quiet-worker o H kept.goes_on w p q its quiet told) (λ v r other old. kept.workers v r old);
        waiting = waiting-after;
        inside = kept.inside;
        owners = λ t new open_now. owner-same s.workers w p q there quiet.leads t (kept.owners t new open_now);
        open_now =
            going-after s.workers w p q there (open_count (summary H)) (open_count (summary H)) (open_count (summary o.store.history)) kept.open_now
            (ap (λ b. open_count (summary H) + b) (ap (λ a. cond (is_some a) 1 0) (sym quiet.leads)));
        few_let_in = rw (length-set s.workers w q) kept.few_let_in;
        few = rw (length-set s.workers w q) kept.few;
      }

-- what the worker noted goes on being the parts of its jobs
told-after : TurnsAreTold → (o : Start) (s : SharedState) → IsKeptSince o s → (w : ℕ) (p : Progress) → slice_get s.workers w ≡ Some p → (IsAtEnd p → ⊥) → (new : Stored) (q : Progress)
    → Turns s.store w p new q → IsTold (objects new) q
told-after tells o s kept w p there going new q turn =
    let its = kept.workers w p there in
    let same : objects s.store ≡ objects o.store = ap objects kept.store in
    tells s.store w p new q (subst (λ types. IsTold types p) (sym same) its.told) going
    (has-open s.store.history (open_in_phase p.phase) (λ t now. (its.owns t now).still_open)) turn

module _ (now : SummaryAfter) (in_run : TransactionsInRun) (opens : OpensAfter) (own : OwnAfter) (began : BeginnersAfter) (tells : TurnsAreTold) where
  -- with the store's event or without
  after-turn : (o : Start) (s : SharedState) (w : ℕ) (new : SharedState) → IsRun (objects s.store) s.store.history → IsRun (objects new.store) new.store.history
      → IsKeptSince o s → TakesTurn s w new → IsKeptSince o new
  unfolding turned-at
  after-turn o s w new run on kept turn =
      let p = turn.p in
      let q = turn.q in
      let told = told-after tells o s kept w p turn.there turn.going new.store q turn.turn in
      let types : objects s.store ≡ objects o.store = ap objects kept.store in
      let limits : s.store.limits ≡ o.store.limits = ap (λ (z : Stored). z.limits) kept.store in
      elim (turned o s.store w p (kept.workers w p turn.there) new.store q limits (few-going o s kept w turn.let_in p turn.there q) turn.turn) [
        | inl quiet ↦
            let same : objects new.store ≡ objects o.store = ap objects quiet.0 ∙ types in
            subst (IsKeptSince o) (sym (turn.is ∙ ap (turned-at o s kept w turn.let_in p turn.there q) quiet.0))
            (after-quiet o s kept w turn.let_in p turn.there q quiet.1 (subst (λ l. IsTold l q) same told))
        | inr made ↦
            let same : objects new.store ≡ objects o.store = ap objects made.1 ∙ types in
            let last = follows now in_run opens own began (objects s.store) s.store.history (event w made.0) run (subst (λ z. IsRun (objects z) z.history) made.1 on) in
            subst (IsKeptSince o) (sym (turn.is ∙ ap (turned-at o s kept w turn.let_in p turn.there q) made.1))
            (after-noted o s kept w turn.let_in p turn.there q made.0 last made.2 (subst (λ l. IsTold l q) same told))
      ]

  pub turns_are_kept : TurnsAreKept
  turns_are_kept = λ o s w new run on kept turn. after-turn o s w new run on kept turn
