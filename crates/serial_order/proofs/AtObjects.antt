-- In a run, at each object, what is so of C and V there stays so by each event.
use Rattle.std.proofs.Common.{◌≡◌, ℕ, true, false, ◌==◌, List, [], ◌∷◌, ◌++◌, Option, Some, slice_get, refl, sym, subst, ⊎_elim}
use Rattle.std.specs.List.{AllByRecursion}
use Rattle.std.proofs.lemmas.Bool.{eqb-true, eq-eqb, cases_Bool}
use Rattle.std.proofs.lemmas.List.{append-nil}
use Rattle.std.proofs.lemmas.List.Elements.{filter-append}
use Rattle.type_table.proofs.Elements.{each-both, each-filter, eqb-sym}
use Rattle.object_trait.specs.Object.{Object}
use Rattle.object_trait.specs.Strike.{keep_first}
use Rattle.object_trait.specs.declared.event.Event.{Event}
use Rattle.object_trait.specs.declared.event.EventKind.{EventKind}
use Rattle.object_trait.specs.declared.event.EventKind.TheVariants as kind
use Rattle.object_trait.specs.declared.event.EventKind.TheVariants.{Begin, Op, Busy, Commit, Abort, Rollback}
use Rattle.serial_order.specs.Operations.{is_among, at_object, is_by}
use Rattle.serial_order.specs.History.{Summary, summary, is_open}
use Rattle.serial_order.specs.View.{is_legal_for, conflicts_with, stops_at}
use Rattle.serial_order.specs.Machine.{May, MayDo, IsRun}
use Rattle.serial_order.specs.declared.entry.Entry.{Entry}
use Rattle.serial_order.proofs.Strikes.{keep_first-part}
use Rattle.serial_order.proofs.Facts.{IsAdmitted}
use Rattle.serial_order.proofs.Events.{summary_after, summary-snoc}
use Rattle.serial_order.specs.After.{AreInRun}
use Rattle.serial_order.proofs.Runs.{in_run, transactions_in_run, pending_is_open, open_is_uncommitted}

-- an open transaction's operation that doesn't conflict with k is free of it
apart_held : (o : Object) (s : Summary) (x t k : ℕ) (held : Entry) → is_open s held.by ≡ true → (t == held.by) ≡ false → conflicts_with o s x t k held ≡ false → stops_at o.kind o s.committed (at_object x s.survives) t k held ≡ false
apart_held o s x t k held open_held other free = rw (open_held, eqb-sym held.by t, other) at free

-- an operation that the machine allows is free
free_at : (o : Object) (s : Summary) (x t k : ℕ) → AreInRun s → is_open s t ≡ true → AllByRecursion (λ e. conflicts_with o s x t k e ≡ false) (at_object x s.survives)
    → IsAdmitted o s.committed (at_object x s.survives) (record { by = t; at = x; op = k })
free_at o s x t k known open_now each = record {
  uncommitted = open_is_uncommitted s t open_now;
  free = each-both
      (λ held began free pending other. apart_held o s x t k held (pending_is_open s held.by (began.0) (began.1) pending) other free)
      (at_object x s.survives) (each-filter _ (λ e. e.at == x) s.survives known.survive) each;
}

-- ---- the step

-- what is so of C and V at the object at x, and stays so by an operation that is free and legal, by a strike and by a commit
pub record Stays (o : Object) (Next : List ℕ → List Entry → Entry → Type 0) (F : List ℕ → List Entry → Type 0) : Type 0 where
  pub op : (C : List ℕ) (V : List Entry) (e : Entry) → IsAdmitted o C V e → Next C V e → F C V → F C (V ++ e ∷ [])
  pub strike : (C : List ℕ) (V : List Entry) (t n : ℕ) → is_among C t ≡ false → F C V → F C (keep_first (is_by t) n V)
  pub commit : (C : List ℕ) (V : List Entry) (t : ℕ) → is_among C t ≡ false → F C V → F (C ++ t ∷ []) V

module _ (objects : List Object) (x : ℕ) (o : Object) (there : slice_get objects x ≡ Some o)
    (Next : List ℕ → List Entry → Entry → Type 0) (F : List ℕ → List Entry → Type 0) (stays : Stays o Next F)
    (legal_next : (s : Summary) (t k : ℕ) → is_legal_for o s x t k ≡ true → Next s.committed (at_object x s.survives) (record { by = t; at = x; op = k })) where
  -- the facts at x
  abbrev At : Summary → Type 0
  At s = F s.committed (at_object x s.survives)

  -- no commit
  same_committed : (C : List ℕ) (V : List Entry) → F C V → F (C ++ []) V
  same_committed C V h = rw (append-nil C) h

  -- an operation at x
  op_here : (s : Summary) (t k : ℕ) → AreInRun s → is_open s t ≡ true → MayDo (slice_get objects x) s x t k → At s
      → F s.committed (at_object x (s.survives ++ (record { by = t; at = x; op = k }) ∷ []))
  op_here s t k known open_now may h =
      let allowed : MayDo (Some o) s x t k = subst (λ (found : Option Object). MayDo found s x t k) there may in
      let e : Entry = record { by = t; at = x; op = k } in
      rw (filter-append (λ e. e.at == x) s.survives (e ∷ []), eq-eqb x x refl)
      (stays.op s.committed (at_object x s.survives) e (free_at o s x t k known open_now (allowed.2)) (legal_next s t k (allowed.1)) h)

  -- an operation elsewhere
  op_elsewhere : (s : Summary) (t y k : ℕ) → (y == x) ≡ false → At s → F s.committed (at_object x (s.survives ++ (record { by = t; at = y; op = k }) ∷ []))
  op_elsewhere s t y k other h = rw (filter-append (λ e. e.at == x) s.survives ((record { by = t; at = y; op = k }) ∷ []), other, append-nil (at_object x s.survives)) h

  -- a strike
  struck : (s : Summary) (t n : ℕ) → is_open s t ≡ true → At s → F s.committed (at_object x (keep_first (is_by t) n s.survives))
  struck s t n open_now h = rw (keep_first-part (λ e. e.at == x) (is_by t) n s.survives)
      (stays.strike s.committed (at_object x s.survives) t _ (open_is_uncommitted s t open_now) h)

  -- each event
  step : (s : Summary) (happened : EventKind) → AreInRun s → May objects s happened → At s → At (summary_after s happened)
  step s (Begin t) known may h = same_committed _ _ h
  step s (Op k t y) known may h = same_committed _ _ (⊎_elim
      (λ (here : (y == x) ≡ true). subst (λ z. F s.committed (at_object x (s.survives ++ (record { by = t; at = z; op = k }) ∷ []))) (sym (eqb-true y x here))
      (op_here s t k known (may.0) (subst (λ z. MayDo (slice_get objects z) s z t k) (eqb-true y x here) (may.1)) h))
      (λ (elsewhere : (y == x) ≡ false). op_elsewhere s t y k elsewhere h)
      (cases_Bool (y == x)))
  step s (Busy c t y u) known may h = same_committed _ _ h
  step s (kind.None t y c) known may h = same_committed _ _ h
  step s (Commit t) known may h = stays.commit s.committed (at_object x s.survives) t (open_is_uncommitted s t may) h
  step s (Abort t) known may h = same_committed _ _ (struck s t 0 may h)
  step s (Rollback t n) known may h = same_committed _ _ (struck s t _ (may.0) h)

  -- each run
  pub at_object_in_run : F [] [] → (H : List Event) → IsRun objects H → At (summary H)
  at_object_in_run start H run = in_run objects (λ G. At (summary G)) start
      (λ G e going may h. subst At (sym (summary-snoc G e)) (step (summary G) e.kind (transactions_in_run objects G going) may h)) H run
