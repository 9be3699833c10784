-- What is known at the start, when nothing was done yet.
use Rattle.std.proofs.Common.{◌≡◌, ℕ, ◌<◌, ◌≤◌, true, nat_lt, List, [], ◌++◌, length, map, filter, Some, is_some, slice_get, refl, sym, ap, ◌∙◌, subst, append-nil, arith}
use Rattle.std.specs.List.{Contains}
use Rattle.std.proofs.lemmas.Bool.{and_parts, ltb-true}
use Rattle.std.proofs.lemmas.List.Elements.{All-nil}
use Rattle.std.proofs.lemmas.Option.{none-some}
use Rattle.object_trait.specs.declared.event.Event.{Event}
use Rattle.serial_order.specs.History.{Summary, summary, is_open}
use Rattle.store_laws.specs.Stored.{objects}
use Rattle.worker_turns.specs.declared.outcome.Outcome.{Outcome}
use Rattle.worker_turns.specs.declared.phase.Phase.TheVariants.{Idle, Refusing}
use Rattle.worker_turns.specs.Parts.{AreParts, AreBroken}
use Rattle.worker_turns.specs.Progress.{Progress, IsTold, IsUnstarted, IsSoFar, receipt_kinds, current_job, open_in_phase}
use Rattle.workers.specs.Events.{receipts_of, done_by}
use Rattle.workers.specs.SharedState.{Start, is_going, IsWorker, IsKeptSince, StartIsKept}
use Rattle.workers.proofs.Events.{past-none}
use Rattle.workers.proofs.Lists.{count-none}

-- an open transaction began
pub began : (s : Summary) (t : ℕ) → is_open s t ≡ true → t < s.begun
began s t open_now = ltb-true t s.begun (and_parts (nat_lt t s.begun) _ open_now).0

-- none is open before a try
pub idle-none : (p : Progress) (t : ℕ) → p.phase ≡ Idle → open_in_phase p.phase ≡ Some t → ⊥
idle-none p t idle open_now = none-some t (sym (ap open_in_phase idle) ∙ open_now)

-- of no outcomes there is none
none-inside : (outcomes : List Outcome) (o : Outcome) → outcomes ≡ [] → Contains outcomes o → ⊥
none-inside outcomes o empty inside = let low = inside.1 in let short = ap length empty in omega (arith, low, short)

module _ (o : Start) (p : Progress) (fresh : IsUnstarted p) where
  -- a worker that did nothing noted what it should
  told-fresh : p.broken < p.tries → IsTold (objects o.store) p
  told-fresh left = record {
    within = let none = ap length fresh.outcomes in omega (arith, none);
    left = left;
    ended = [];
    are_parts = subst (λ os. AreParts (objects o.store) p.tries p.jobs os []) (sym fresh.outcomes) refl;
    behind = [];
    are_broken = subst (λ k. AreBroken (objects o.store) (current_job p) k []) (sym fresh.broken) refl;
    now = [];
    so_far = subst (λ f. IsSoFar (objects o.store) (current_job p) f []) (sym fresh.phase) refl;
    are = ap receipt_kinds fresh.receipts;
    idle = λ end. (fresh.phase, fresh.broken);
  }

  -- and is as the history has it
  worker-fresh : (w : ℕ) → p.tries ≡ o.tries → 0 < o.tries → IsWorker o o.store.history w p
  worker-fresh w tries some = record {
    tries = tries;
    receipts = ap (receipts_of w (length o.store.history)) (past-none o) ∙ sym fresh.receipts;
    told = told-fresh (let none = fresh.broken in omega (arith, none, tries, some));
    owns = λ t now. absurd (idle-none p t fresh.phase now);
    own_operations = λ t now. absurd (idle-none p t fresh.phase now);
    replayed = λ t inside. absurd (none-inside p.outcomes _ fresh.outcomes inside);
    none_ahead = λ t ahead. ap (λ receipts. done_by t (receipt_kinds receipts)) fresh.receipts;
    ran = λ inside. none-inside p.outcomes _ fresh.outcomes inside;
    causes = λ r inside. absurd (none-inside p.outcomes _ fresh.outcomes inside);
    refusing = λ t done r is. absurd (idle-refusing t done r (sym fresh.phase ∙ is));
  }
    where
      idle-refusing : (t done : ℕ) (r : _) → Idle ≡ Refusing t done r → ⊥
      idle-refusing t done r same = cc

-- nothing was done yet
pub start-kept : (o : Start) (ps : List Progress) (n : ℕ) → map (λ (p : Progress). p.jobs) ps ≡ o.jobs
    → ((w : ℕ) (p : Progress) → slice_get ps w ≡ Some p → IsUnstarted p × (p.tries ≡ o.tries)) → 0 < o.tries → n ≤ length ps → length ps ≤ 16
    → IsKeptSince o (record { store = o.store; workers = ps; let_in = n })
start-kept o ps n jobs each some few_let_in few = record {
  store = refl;
  goes_on = ap (λ l. o.store.history ++ l) (past-none o) ∙ append-nil o.store.history;
  jobs = jobs;
  workers = λ w p there. let its = each w p there in worker-fresh o p its.0 w its.1 some;
  waiting = λ w p late there. (each w p there).0;
  inside = rw (past-none o) (All-nil (λ (e : Event). e.worker < n));
  owners = λ t new open_now. let old = began (summary o.store.history) t open_now in absurd (omega (arith, new, old));
  open_now =
      let none : length (filter is_going ps) ≡ 0 = count-none is_going ps (λ w p there. ap (λ f. is_some (open_in_phase f)) (each w p there).0.phase) in
      omega (arith, none);
  few_let_in = few_let_in;
  few = few;
}

pub start_is_kept : StartIsKept
start_is_kept = λ o s same jobs each some few_let_in few run.
    subst (λ z. IsKeptSince o (record { store = z; workers = s.workers; let_in = s.let_in })) (sym same) (start-kept o s.workers s.let_in jobs each some few_let_in few)
