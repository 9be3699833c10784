-- What a history says of one worker and of one transaction, after one more event.
use Rattle.std.proofs.Common.{◌≡◌, ℕ, suc, ◌+◌, ◌≤◌, ◌==◌, Bool, true, false, cond, List, [], ◌∷◌, ◌++◌, filter, length, refl, sym, ap, ◌∙◌, append-nil, append_assoc, length-append, arith}
use Rattle.std.specs.List.{Contains}
use Rattle.std.proofs.Math.Seq.{drop-length}
use Rattle.std.proofs.lemmas.Grind.{flat_map-append}
use Rattle.std.proofs.lemmas.List.{map-append, drop-append-le}
use Rattle.std.proofs.lemmas.List.Elements.{filter-append, Contains-append_left, Contains-append_right}
use Rattle.object_trait.specs.Object.{Object}
use Rattle.object_trait.specs.declared.event.Event.{Event}
use Rattle.object_trait.specs.declared.event.EventKind.{EventKind}
use Rattle.object_trait.specs.declared.event.EventKind.TheVariants.{Commit}
use Rattle.serial_order.specs.History.{begins, commits, is_begin, committed_by}
use Rattle.serial_order.specs.Machine.{MayFollow, RunsOn, IsRun}
use Rattle.worker_turns.specs.declared.outcome.Receipt.{Receipt}
use Rattle.worker_turns.specs.Progress.{receipt_kinds}
use Rattle.workers.specs.Events.{receipts_of, done_for, done_by}
use Rattle.workers.specs.SharedState.{Start, past}

-- ---- runs

-- the last event of what goes on may follow what is before it
last-follows : (objects : List Object) (before H : List Event) (e : Event) → RunsOn objects before (H ++ e ∷ []) → MayFollow objects (before ++ H) e
last-follows objects before [] e run = rw (append-nil before) (run.0)
last-follows objects before (f ∷ H) e run = rw (append_assoc before (f ∷ []) H) at (last-follows objects (before ++ f ∷ []) H e run.1)

-- the last event of a run may follow the history before it
pub may_follow : (objects : List Object) (H : List Event) (e : Event) → IsRun objects (H ++ e ∷ []) → MayFollow objects H e
may_follow objects H e run = last-follows objects [] H e run

-- ---- transactions

-- no fewer began after more events
pub begins-more : (H K : List Event) → begins H ≤ begins (H ++ K)
begins-more H K =
    let passed = filter-append (λ (e : Event). is_begin e.kind) H K in
    let both = length-append (filter (λ (e : Event). is_begin e.kind) H) (filter (λ (e : Event). is_begin e.kind) K) in
    rw (passed, both) (omega arith)

-- what committed committed after more events
pub commits-more : (H K : List Event) (t : ℕ) → Contains (commits H) t → Contains (commits (H ++ K)) t
commits-more H K t inside =
    rw (flat_map-append (λ (e : Event). committed_by e.kind) H K) (Contains-append_left (commits H) (commits K) t inside)

-- t committed after its commit
pub commits-last : (H : List Event) (w t : ℕ) → Contains (commits (H ++ (record { worker = w; kind = Commit t }) ∷ [])) t
commits-last H w t =
    let e : Event = record { worker = w; kind = Commit t } in
    rw (flat_map-append (λ (f : Event). committed_by f.kind) H (e ∷ [])) (Contains-append_right (commits H) (t ∷ []) t (0, omega arith, refl))

-- what t executed by one event more
pub done_by-more : (t : ℕ) (es : List EventKind) (happened : EventKind) → done_by t (es ++ happened ∷ []) ≡ done_by t es ++ done_for t happened
done_by-more t es happened =
    flat_map-append (done_for t) es (happened ∷ []) ∙ ap (λ rest. done_by t es ++ rest) (append-nil (done_for t happened))

-- what happened by one receipt more
pub kinds-more : (receipts : List Receipt) (r : Receipt) → receipt_kinds (receipts ++ r ∷ []) ≡ receipt_kinds receipts ++ r.event.kind ∷ []
kinds-more receipts r = map-append (λ (s : Receipt). s.event.kind) receipts (r ∷ [])

-- ---- the events of a worker

-- among these and more
by-append : (w position : ℕ) (es fs : List Event) → receipts_of w position (es ++ fs) ≡ receipts_of w position es ++ receipts_of w (position + length es) fs
by-append w position [] fs = ap (λ n. receipts_of w n fs) (omega arith)
by-append w position (e ∷ es) fs =
    let rest : receipts_of w (suc position) (es ++ fs) ≡ receipts_of w (suc position) es ++ receipts_of w (position + suc (length es)) fs =
    by-append w (suc position) es fs ∙ ap (λ n. receipts_of w (suc position) es ++ receipts_of w n fs) (omega arith)
    in
    with_rest (e.worker == w) (record { position = position; event = e }) (receipts_of w (suc position) (es ++ fs)) (receipts_of w (suc position) es) (receipts_of w (position + suc (length es)) fs) rest
  where
    with_rest : (b : Bool) (r : Receipt) (all front back : List Receipt) → all ≡ front ++ back → cond b (r ∷ all) all ≡ cond b (r ∷ front) front ++ back
    with_rest true r all front back same = ap (λ l. r ∷ l) same
    with_rest false r all front back same = same

-- ---- the events that came since the start

-- none came yet
pub past-none : (o : Start) → past o o.store.history ≡ []
past-none o = drop-length o.store.history

module _ (o : Start) (H : List Event) (goes_on : o.store.history ++ past o H ≡ H) where
  -- the events of the start and those since then are all
  pub start-short : length o.store.history + length (past o H) ≡ length H
  start-short = sym (length-append o.store.history (past o H)) ∙ ap length goes_on

  -- and one more
  pub past-more : (e : Event) → past o (H ++ e ∷ []) ≡ past o H ++ e ∷ []
  past-more e =
      let short = start-short in
      drop-append-le (length o.store.history) H (e ∷ []) (omega (arith, short))

  -- so it goes on
  pub goes_on-more : (e : Event) → o.store.history ++ past o (H ++ e ∷ []) ≡ H ++ e ∷ []
  goes_on-more e =
      ap (λ l. o.store.history ++ l) (past-more e) ∙ sym (append_assoc o.store.history (past o H) (e ∷ [])) ∙ ap (λ l. l ++ e ∷ []) goes_on

  -- no fewer transactions began than at the start
  pub begins-since : begins o.store.history ≤ begins H
  begins-since = rw goes_on at (begins-more o.store.history (past o H))

  -- the worker of the event has it after its others, at its position
  pub by-own : (w : ℕ) (e : Event) → (e.worker == w) ≡ true
      → receipts_of w (length o.store.history) (past o (H ++ e ∷ [])) ≡ receipts_of w (length o.store.history) (past o H) ++ (record { position = length H; event = e }) ∷ []
  by-own w e own =
      let n = length o.store.history in
      ap (receipts_of w n) (past-more e) ∙ by-append w n (past o H) (e ∷ [])
      ∙ ap (λ k. receipts_of w n (past o H) ++ receipts_of w k (e ∷ [])) start-short
      ∙ ap (λ b. receipts_of w n (past o H) ++ cond b ((record { position = length H; event = e }) ∷ []) []) own

  -- others have those that they had
  pub by-others : (w : ℕ) (e : Event) → (e.worker == w) ≡ false → receipts_of w (length o.store.history) (past o (H ++ e ∷ [])) ≡ receipts_of w (length o.store.history) (past o H)
  by-others w e other =
      let n = length o.store.history in
      ap (receipts_of w n) (past-more e) ∙ by-append w n (past o H) (e ∷ [])
      ∙ ap (λ b. receipts_of w n (past o H) ++ cond b ((record { position = n + length (past o H); event = e }) ∷ []) []) other
      ∙ append-nil (receipts_of w n (past o H))
