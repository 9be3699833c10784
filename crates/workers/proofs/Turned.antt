-- The turns of a worker, in two cases: the store makes an event of the worker, or makes none.
use Rattle.std.proofs.Common.{◌≡◌, ◌⊎◌, ℕ, ◌+◌, ◌<◌, List, [], ◌∷◌, ◌++◌, length, Option, Some, None, slice_get, refl, sym, ap, subst, inl, inr}
use Rattle.std.specs.List.{Contains}
use Rattle.std.proofs.lemmas.List.Elements.{Contains-push_cases}
use Rattle.type_table.specs.Operation.{place_of}
use Rattle.object_trait.specs.declared.event.Event.{Event}
use Rattle.object_trait.specs.declared.event.EventKind.{EventKind}
use Rattle.object_trait.specs.declared.event.EventKind.TheVariants as kind
use Rattle.object_trait.specs.declared.event.EventKind.TheVariants.{Begin, Op, Busy, Commit, Abort, Rollback}
use Rattle.serial_order.specs.History.{summary, begins}
use Rattle.serial_order.specs.Replay.{open_count}
use Rattle.serial_order.specs.declared.command.Command.{Command}
use Rattle.serial_order.specs.declared.command.Command.TheVariants as command
use Rattle.serial_order.specs.declared.refusal.Refusal.{Refusal}
use Rattle.serial_order.specs.declared.refusal.Refusal.TheVariants.{NoMemory}
use Rattle.store_laws.specs.Stored.{Stored, objects, refusal_of}
use Rattle.store.specs.Calls.{noted}
use Rattle.jobs_text.specs.Jobs.{Call}
use Rattle.worker_turns.specs.declared.outcome.Outcome.{Outcome}
use Rattle.worker_turns.specs.declared.outcome.Outcome.TheVariants.{Committed, GaveUp, Refused, NotRun}
use Rattle.worker_turns.specs.declared.phase.Phase.{Phase}
use Rattle.worker_turns.specs.declared.phase.Phase.TheVariants.{Idle, Going, Breaking, Refusing}
use Rattle.worker_turns.specs.Progress.{Progress, current_job, open_in_phase}
use Rattle.worker_turns.specs.Turns.{receipt, goes_to, gets, ends, breaks, Begins, Calls, GivesBack, RefusesJob, CallsOrCommits, TurnsIn, Turns}
use Rattle.workers.specs.SharedState.{Start, HasCause, IsWorker}
use Rattle.workers.proofs.Causes.{begin-cause, call-cause}

-- ---- two cases

-- which transaction is open before the worker's event, and which after it
abbrev pub Leads : EventKind → Option ℕ → Option ℕ → Type 0
Leads (Begin t) before now = (before ≡ None) × (now ≡ Some t)
Leads (Op k t x) before now = (before ≡ Some t) × (now ≡ Some t)
Leads (Busy c t x u) before now = (before ≡ Some t) × (now ≡ Some t)
Leads (kind.None t x c) before now = (before ≡ Some t) × (now ≡ Some t)
Leads (Commit t) before now = (before ≡ Some t) × (now ≡ None)
Leads (Abort t) before now = (before ≡ Some t) × (now ≡ None)
Leads (Rollback t n) before now = ⊥

-- the store makes an event of the worker
pub record IsNoted (o : Start) (H : List Event) (w : ℕ) (happened : EventKind) (p q : Progress) : Type 0 where
  pub jobs : q.jobs ≡ p.jobs
  pub tries : q.tries ≡ p.tries
  pub receipts : q.receipts ≡ p.receipts ++ receipt H w happened ∷ []
  pub leads : Leads happened (open_in_phase p.phase) (open_in_phase q.phase)
  pub committed : (t : ℕ) → Contains q.outcomes (Committed t) → Contains p.outcomes (Committed t) ⊎ (happened ≡ Commit t)
  pub ran : Contains q.outcomes NotRun → Contains p.outcomes NotRun
  pub causes : (r : Refusal) → Contains q.outcomes (Refused r) → HasCause o H r
  pub refusing : (t done : ℕ) (r : Refusal) → q.phase ≡ Refusing t done r → HasCause o H r

-- the store makes none
pub record IsQuiet (o : Start) (H : List Event) (p q : Progress) : Type 0 where
  pub jobs : q.jobs ≡ p.jobs
  pub tries : q.tries ≡ p.tries
  pub receipts : q.receipts ≡ p.receipts
  pub leads : open_in_phase q.phase ≡ open_in_phase p.phase
  pub committed : (t : ℕ) → Contains q.outcomes (Committed t) → Contains p.outcomes (Committed t)
  pub ran : Contains q.outcomes NotRun → Contains p.outcomes NotRun
  pub causes : (r : Refusal) → Contains q.outcomes (Refused r) → HasCause o H r
  pub refusing : (t done : ℕ) (r : Refusal) → q.phase ≡ Refusing t done r → HasCause o H r

-- a turn is one or the other
abbrev pub IsTurned : Start → Stored → ℕ → Progress → Stored → Progress → Type 0
IsTurned o old w p new q =
    ((new ≡ old) × IsQuiet o old.history p q) ⊎ ((happened : EventKind) × (new ≡ noted old w happened) × IsNoted o old.history w happened p q)

-- ---- what the worker notes

-- outcomes of different names differ, and so are phases
refused_committed : (t : ℕ) (r : Refusal) → Refused r ≡ Committed t → ⊥
refused_committed t r same = cc

gave_up_committed : (t : ℕ) → GaveUp ≡ Committed t → ⊥
gave_up_committed t same = cc

gave_up_refused : (r : Refusal) → GaveUp ≡ Refused r → ⊥
gave_up_refused r same = cc

committed_refused : (t : ℕ) (r : Refusal) → Committed t ≡ Refused r → ⊥
committed_refused t r same = cc

refused_not_run : (r : Refusal) → Refused r ≡ NotRun → ⊥
refused_not_run r same = cc

committed_not_run : (t : ℕ) → Committed t ≡ NotRun → ⊥
committed_not_run t same = cc

gave_up_not_run : GaveUp ≡ NotRun → ⊥
gave_up_not_run same = cc

same_reason : (r reason : Refusal) → Refused r ≡ Refused reason → r ≡ reason
same_reason r reason same = cc

same_number : (t u : ℕ) → Committed t ≡ Committed u → t ≡ u
same_number t u same = cc

idle_refusing : (t done : ℕ) (r : Refusal) → Idle ≡ Refusing t done r → ⊥
idle_refusing t done r same = cc

going_refusing : (u more t done : ℕ) (r : Refusal) → Going u more ≡ Refusing t done r → ⊥
going_refusing u more t done r same = cc

breaking_refusing : (u more t done : ℕ) (r : Refusal) → Breaking u more ≡ Refusing t done r → ⊥
breaking_refusing u more t done r same = cc

refusing_refusing : (u more : ℕ) (reason : Refusal) (t done : ℕ) (r : Refusal) → Refusing u more reason ≡ Refusing t done r → reason ≡ r
refusing_refusing u more reason t done r same = cc

module _ (o : Start) (old : Stored) (w : ℕ) (p : Progress) (its : IsWorker o old.history w p) where
  -- its try goes on by the event
  goes-noted : (happened : EventKind) (phase : Phase) → Leads happened (open_in_phase p.phase) (open_in_phase phase)
      → ((t done : ℕ) (r : Refusal) → phase ≡ Refusing t done r → ⊥) → IsNoted o old.history w happened p (goes_to phase (gets old.history w happened p))
  goes-noted happened phase leads never = record {
    jobs = refl;
    tries = refl;
    receipts = refl;
    leads = leads;
    committed = λ t inside. inl inside;
    ran = λ inside. inside;
    causes = its.causes;
    refusing = λ t done r is. absurd (never t done r is);
  }

  -- its try is broken by the event
  breaks-noted : (happened : EventKind) → Leads happened (open_in_phase p.phase) None → IsNoted o old.history w happened p (breaks (gets old.history w happened p))
  breaks-noted happened leads = record {
    jobs = refl;
    tries = refl;
    receipts = refl;
    leads = leads;
    committed = λ t inside. inl inside;
    ran = λ inside. inside;
    causes = its.causes;
    refusing = λ t done r is. absurd (idle_refusing t done r is);
  }

  -- refusals that it noted and one more have a cause
  causes-more : (outcome : Outcome) → ((r : Refusal) → outcome ≡ Refused r → HasCause o old.history r)
      → (r : Refusal) → Contains (p.outcomes ++ outcome ∷ []) (Refused r) → HasCause o old.history r
  causes-more outcome cause r inside =
      elim (Contains-push_cases p.outcomes outcome (Refused r) inside) [
        | inl before ↦ its.causes r before
        | inr now ↦ cause r now
      ]

  -- with one more outcome that isn't that a job wasn't run
  ran-more : (outcome : Outcome) → (outcome ≡ NotRun → ⊥) → Contains (p.outcomes ++ outcome ∷ []) NotRun → Contains p.outcomes NotRun
  ran-more outcome other inside = elim (Contains-push_cases p.outcomes outcome NotRun inside) [ inl before ↦ before | inr now ↦ absurd (other now) ]

  -- its job ends with the event
  ends-noted : (happened : EventKind) (outcome : Outcome) → Leads happened (open_in_phase p.phase) None
      → (outcome ≡ NotRun → ⊥) → ((t : ℕ) → outcome ≡ Committed t → happened ≡ Commit t) → ((r : Refusal) → outcome ≡ Refused r → HasCause o old.history r)
      → IsNoted o old.history w happened p (ends outcome (gets old.history w happened p))
  ends-noted happened outcome leads other commits cause = record {
    jobs = refl;
    tries = refl;
    receipts = refl;
    leads = leads;
    committed = λ t inside. elim (Contains-push_cases p.outcomes outcome (Committed t) inside) [ inl before ↦ inl before | inr now ↦ inr (commits t now) ];
    ran = ran-more outcome other;
    causes = causes-more outcome cause;
    refusing = λ t done r is. absurd (idle_refusing t done r is);
  }

  -- its begin is refused
  ends-quiet : (reason : Refusal) → p.phase ≡ Idle → HasCause o old.history reason → IsQuiet o old.history p (ends (Refused reason) p)
  ends-quiet reason idle cause = record {
    jobs = refl;
    tries = refl;
    receipts = refl;
    leads = sym (ap open_in_phase idle);
    committed = λ t inside.
        elim (Contains-push_cases p.outcomes (Refused reason) (Committed t) inside) [ inl before ↦ before | inr now ↦ absurd (refused_committed t reason now) ];
    ran = ran-more (Refused reason) (refused_not_run reason);
    causes = causes-more (Refused reason) (λ r same. subst (HasCause o old.history) (same_reason reason r same) cause);
    refusing = λ t done r is. absurd (idle_refusing t done r is);
  }

  -- its call is refused
  goes-quiet : (t done : ℕ) (reason : Refusal) → open_in_phase p.phase ≡ Some t → HasCause o old.history reason → IsQuiet o old.history p (goes_to (Refusing t done reason) p)
  goes-quiet t done reason going cause = record {
    jobs = refl;
    tries = refl;
    receipts = refl;
    leads = sym going;
    committed = λ u inside. inside;
    ran = λ inside. inside;
    causes = its.causes;
    refusing = λ u more r is. subst (HasCause o old.history) (refusing_refusing t done reason u more r is) cause;
  }

-- ---- turns by phase

module _ (o : Start) (old : Stored) (w : ℕ) (p : Progress) (its : IsWorker o old.history w p) (new : Stored) (q : Progress) (limits : old.limits ≡ o.store.limits) where
  -- an event with which the worker is as it is noted
  made : (happened : EventKind) (r : Progress) → new ≡ noted old w happened → q ≡ r → IsNoted o old.history w happened p r → IsTurned o old w p new q
  made happened r is same told = inr (happened, is, subst (IsNoted o old.history w happened p) (sym same) told)

  -- no event
  kept : (r : Progress) → new ≡ old → q ≡ r → IsQuiet o old.history p r → IsTurned o old w p new q
  kept r is same told = inl (is, subst (IsQuiet o old.history p) (sym same) told)

  -- the cause of a refusal, which may be that memory was refused
  cause-of : (asked : Command) (r : Refusal) → ((reason : Refusal) → refusal_of old asked ≡ Some reason → HasCause o old.history reason)
      → (refusal_of old asked ≡ Some r) ⊎ ((refusal_of old asked ≡ None) × (r ≡ NoMemory)) → HasCause o old.history r
  cause-of asked r cause (inl reason) = cause r reason
  cause-of asked r cause (inr (none, memory_refused)) = subst (HasCause o old.history) (sym memory_refused) tt

  -- before a try
  begins-turned : p.phase ≡ Idle → open_count (summary old.history) < open_count (summary o.store.history) + length o.jobs → Begins old w p new q → IsTurned o old w p new q
  begins-turned idle few (inl (is, same)) =
      let t = begins old.history in
      made (Begin t) _ is same (goes-noted o old w p its (Begin t) (Going t 0) (ap open_in_phase idle, refl) (λ u done r e. going_refusing t 0 u done r e))
  begins-turned idle few (inr (inl (r, (is, reason), same))) =
      let cause : HasCause o old.history r = cause-of command.Begin r (λ why refused. begin-cause o old.history (objects old) why few (rw limits at refused)) reason in
      kept _ is same (ends-quiet o old w p its r idle cause)
  begins-turned idle few (inr (inr (is, same))) = kept _ is same (ends-quiet o old w p its NoMemory idle tt)

  -- in a try
  calls-turned : (t done : ℕ) (call : Call) → open_in_phase p.phase ≡ Some t → Calls t done call old w p new q → IsTurned o old w p new q
  calls-turned t done call going (inl (e, reply, is, same)) =
      made e _ is same
      (goes-noted o old w p its e (Going t (done + 1)) (subst (λ k. Leads k (open_in_phase p.phase) (Some t)) (sym reply.is) (going, refl))
      (λ u more r z. going_refusing t (done + 1) u more r z))
  calls-turned t done call going (inr (inl (e, none, is, same))) =
      made e _ is same (goes-noted o old w p its e (Breaking t done) (leads none.is) (λ u more r z. breaking_refusing t done u more r z))
    where
      leads : ((u : ℕ) × (e ≡ Busy (place_of none.c) t (call.0) u)) ⊎ (e ≡ kind.None t (call.0) (place_of none.c)) → Leads e (open_in_phase p.phase) (Some t)
      leads (inl busy) = subst (λ k. Leads k (open_in_phase p.phase) (Some t)) (sym (busy.1)) (going, refl)
      leads (inr nothing) = subst (λ k. Leads k (open_in_phase p.phase) (Some t)) (sym nothing) (going, refl)
  calls-turned t done call going (inr (inr (inl (r, (is, reason), same)))) =
      let cause : HasCause o old.history r =
      cause-of (command.Call t (call.0) (call.1)) r (λ why refused. call-cause o old.history (objects old) t (call.0) (call.1) why (rw limits at refused)) reason
      in
      kept _ is same (goes-quiet o old w p its t done r going cause)
  calls-turned t done call going (inr (inr (inr (is, same)))) =
      made (Abort t) _ is same
      (ends-noted o old w p its (Abort t) (Refused NoMemory) (going, refl) (refused_not_run NoMemory) (λ u z. absurd (refused_committed u NoMemory z))
      (λ r z. subst (HasCause o old.history) (same_reason NoMemory r z) tt))

  calls_or_commits-turned : (t done : ℕ) (next : Option Call) → open_in_phase p.phase ≡ Some t → CallsOrCommits t done next old w p new q → IsTurned o old w p new q
  calls_or_commits-turned t done None going (is, same) =
      made (Commit t) _ is same
      (ends-noted o old w p its (Commit t) (Committed t) (going, refl) (committed_not_run t) (λ u z. ap Commit (same_number t u z)) (λ r z. absurd (committed_refused t r z)))
  calls_or_commits-turned t done (Some call) going turn = calls-turned t done call going turn

  -- after a call with no reply
  gives_back-turned : (t : ℕ) → open_in_phase p.phase ≡ Some t → GivesBack t old w p new q → IsTurned o old w p new q
  gives_back-turned t going (is, inl (fewer, same)) = made (Abort t) _ is same (breaks-noted o old w p its (Abort t) (going, refl))
  gives_back-turned t going (is, inr (last, same)) =
      made (Abort t) _ is same
      (ends-noted o old w p its (Abort t) GaveUp (going, refl) gave_up_not_run (λ u z. absurd (gave_up_committed u z)) (λ r z. absurd (gave_up_refused r z)))

  -- after a refused call
  refuses-turned : (t : ℕ) (reason : Refusal) → open_in_phase p.phase ≡ Some t → HasCause o old.history reason → RefusesJob t reason old w p new q → IsTurned o old w p new q
  refuses-turned t reason going cause (is, same) =
      made (Abort t) _ is same
      (ends-noted o old w p its (Abort t) (Refused reason) (going, refl) (refused_not_run reason) (λ u z. absurd (refused_committed u reason z))
      (λ r z. subst (HasCause o old.history) (same_reason reason r z) cause))

  -- in each phase
  in-phase : (phase : Phase) → p.phase ≡ phase → (p.phase ≡ Idle → open_count (summary old.history) < open_count (summary o.store.history) + length o.jobs)
      → TurnsIn phase old w p new q → IsTurned o old w p new q
  in-phase Idle is few turn = begins-turned is (few is) turn
  in-phase (Going t done) is few turn = calls_or_commits-turned t done (slice_get (current_job p) done) (ap open_in_phase is) turn
  in-phase (Breaking t done) is few turn = gives_back-turned t (ap open_in_phase is) turn
  in-phase (Refusing t done r) is few turn = refuses-turned t r (ap open_in_phase is) (its.refusing t done r is) turn

  -- where fewer are going than there are workers, if this one isn't
  pub turned : (p.phase ≡ Idle → open_count (summary old.history) < open_count (summary o.store.history) + length o.jobs) → Turns old w p new q → IsTurned o old w p new q
  turned few turn = in-phase p.phase refl few turn
