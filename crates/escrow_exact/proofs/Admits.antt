-- The machine admits at an object in escrow exactly what is safe.
use Rattle.std.proofs.Common.{◌≡◌, ℕ, ◌<◌, Bool, true, false, not, ◌&&◌, ◌==◌, List, [], ◌∷◌, ◌++◌, Option, Some, slice_get, refl, sym, ap, ◌∙◌, subst, inl, inr, append-nil, append_assoc}
use Rattle.std.specs.Prelude.{unwrap_or}
use Rattle.std.proofs.lemmas.Bool.{cases_Bool, eqb-true, eq-eqb, false≢true, not-true}
use Rattle.type_table.specs.Table.{has_op}
use Rattle.type_table.specs.Run.{run, IsLegal}
use Rattle.type_table.specs.Laws.{RunsAlong}
use Rattle.type_table.specs.declared.kind.Kind.{Kind}
use Rattle.type_table.specs.declared.kind.Kind.TheVariants.{Escrow}
use Rattle.type_table.proofs.Elements.{each-filter, each-passes, each-weaker, filter-none}
use Rattle.type_table.proofs.Legal.{some_state, legal-after}
use Rattle.escrow_laws.specs.Amounts.{IsNumeric}
use Rattle.escrow_laws.specs.Firm.{IsFirm, with_op}
use Rattle.escrow_laws.specs.Safe.{IsSafe}
use Rattle.escrow_laws.specs.Laws.{AdmittedWhereSafe, FirmAfterStrike, FirmIsLegal, FirmKeepsNobody, SafeIsFirm}
use Rattle.object_trait.specs.Object.{Object, IsCovered}
use Rattle.object_trait.specs.declared.event.Event.{Event}
use Rattle.object_trait.specs.declared.event.EventKind.{EventKind}
use Rattle.object_trait.specs.declared.event.EventKind.TheVariants as kind
use Rattle.object_trait.specs.declared.event.EventKind.TheVariants.{Begin, Op, Busy, Commit, Abort, Rollback}
use Rattle.serial_order.specs.Operations.{is_among, is_by, ops, at_object, of, pending, serial}
use Rattle.serial_order.specs.History.{Summary, summary, is_open, commits}
use Rattle.serial_order.specs.View.{view, is_legal_after, is_legal_for, stops_at, own_at, number_at, above_at}
use Rattle.serial_order.specs.Machine.{May, MayDo, MayFollow, IsRun}
use Rattle.serial_order.specs.Serial.{serial_at, serial_state}
use Rattle.serial_order.specs.After.{AreInRun, TransactionsInRun}
use Rattle.serial_order.specs.Laws.{RunGoesOn}
use Rattle.serial_order.specs.declared.entry.Entry.{Entry}
use Rattle.serial_order.proofs.Escrow.{covers_escrow}
use Rattle.serial_order.proofs.Lists.{of-pending, ops-append}
use Rattle.serial_order.proofs.Pairs.{each-all}
use Rattle.serial_order.proofs.Runs.{open_is_uncommitted, pending_is_open}
use Rattle.dynamic_atomicity.specs.Dynamic.{CoveredIsAtomic, CommitOrderKeeps}
use Rattle.escrow_exact.specs.Ends.{own_in, open_own, IsEnding, AreEndings}
use Rattle.escrow_exact.specs.Laws.{AdmitsTheSafe, EscrowAdmitsTheSafe, LegalEndsAreSafe}
use Rattle.escrow_exact.proofs.Stores.{same_order, own_more, safe-same}

-- ---- ends in runs

-- the machine refuses no end
end_may : (objects : List Object) (s : Summary) (happened : EventKind) → IsEnding s happened → May objects s happened
end_may objects s (Begin t) end = absurd end
end_may objects s (Op k t x) end = absurd end
end_may objects s (Busy c t x u) end = absurd end
end_may objects s (kind.None t x c) end = absurd end
end_may objects s (Commit t) end = end
end_may objects s (Abort t) end = end
end_may objects s (Rollback t n) end = end

pub ends_run : RunGoesOn → (objects : List Object) (es H : List Event) → IsRun objects H → AreEndings H es → IsRun objects (H ++ es)
ends_run goes objects [] H is_run ends = rw (append-nil H) is_run
ends_run goes objects (e ∷ es) H is_run ends =
    rw (append_assoc H (e ∷ []) es) at (ends_run goes objects es (H ++ e ∷ []) (goes objects H e is_run (end_may objects (summary H) e.kind ends.0)) ends.1)

-- ---- what open transactions did

-- what didn't commit is of open transactions
pub own_same : (s : Summary) (x u : ℕ) → AreInRun s → own_at s.committed (at_object x s.survives) u ≡ own_in x s u
own_same s x u known =
    elim (cases_Bool (is_open s u)) [
      | inl open_now ↦ rw open_now (ap ops (of-pending s.committed u (at_object x s.survives) (open_is_uncommitted s u open_now)))
      | inr ended ↦ rw ended (ap ops (none ended))
    ]
  where
    not_by : is_open s u ≡ false → (e : Entry) → (e.by < s.begun) × (is_among s.aborted e.by ≡ false) → not (is_among s.committed e.by) ≡ true → is_by u e ≡ false
    not_by ended e began uncommitted =
        elim (cases_Bool (e.by == u)) [
          | inl is ↦
              let now : is_open s e.by ≡ true = pending_is_open s e.by began.0 began.1 (not-true (is_among s.committed e.by) uncommitted) in
              absurd (false≢true (sym ended ∙ ap (is_open s) (sym (eqb-true e.by u is)) ∙ now))
          | inr isnt ↦ isnt
        ]

    none : is_open s u ≡ false → of u (pending s.committed (at_object x s.survives)) ≡ []
    none ended =
        filter-none (is_by u) (pending s.committed (at_object x s.survives))
        (each-passes (λ e. is_by u e ≡ false) (λ e. not (is_among s.committed e.by)) (at_object x s.survives)
        (each-filter (λ e. not (is_among s.committed e.by) ≡ true → is_by u e ≡ false) (λ e. e.at == x) s.survives
        (each-weaker (λ e began. not_by ended e began) s.survives known.survive)))

-- ---- an operation that is safe

module _ (along : RunsAlong) (strikes : FirmAfterStrike) (firm_legal : FirmIsLegal) (nobody : FirmKeepsNobody) (safe_firm : SafeIsFirm)
    (o : Object) (s : Summary) (x t k base : ℕ) (numeric : IsNumeric o.table o.amounts) (escrow : o.kind ≡ Escrow) (known : AreInRun s) (open_now : is_open s t ≡ true)
    (committed : run o.table (Some o.table.initial) (ops (serial s.committed (at_object x s.survives))) ≡ Some base)
    (safe : IsSafe o.table base (with_op (own_in x s) t k)) where
  abbrev C : List ℕ
  C = s.committed

  abbrev V : List Entry
  V = at_object x s.survives

  firm : IsFirm o.table o.amounts base (with_op (own_in x s) t k)
  firm = safe_firm o.table o.amounts base (with_op (own_in x s) t k) numeric safe

  -- as the machine has it
  same_own : (u : ℕ) → with_op (own_in x s) t k u ≡ with_op (own_at C V) t k u ++ []
  same_own u = rw (append-nil (with_op (own_at C V) t k u), own_same s x u known) refl

  firm_there : IsFirm o.table o.amounts base (with_op (own_at C V) t k)
  firm_there = strikes o.table o.amounts base (with_op (own_in x s) t k) (with_op (own_at C V) t k) firm (λ u. ([], same_own u))

  number : number_at o C V ≡ base
  number = ap (λ found. unwrap_or found 0) committed

  legal : is_legal_for o s x t k ≡ true
  legal =
      let mine : IsLegal o.table (Some base) (ops (of t V) ++ k ∷ []) = rw (eq-eqb t t refl, open_now) at (firm_legal o.table o.amounts base (with_op (own_in x s) t k) t firm) in
      let whole : ops (serial C V ++ of t V) ++ k ∷ [] ≡ ops (serial C V) ++ (ops (of t V) ++ k ∷ []) =
      ap (λ v. v ++ k ∷ []) (ops-append (serial C V) (of t V)) ∙ append_assoc (ops (serial C V)) (ops (of t V)) (k ∷ []) in
      subst (λ (by : Kind). is_legal_after o (view by s x t) k ≡ true) (sym escrow)
      (rw whole (legal-after along o.table (Some o.table.initial) (ops (serial C V)) (ops (of t V) ++ k ∷ []) base committed mine))

  free : (e : Entry) → stops_at o.kind o C V t k e ≡ false
  free e =
      subst (λ (by : Kind). stops_at by o C V t k e ≡ false) (sym escrow)
      (rw number (nobody o.table o.amounts base (above_at t (pending C V)) (with_op (own_at C V) t k) t e.by firm_there))

  unblocked : (a b c : Bool) → c ≡ false → (a && (not b && c)) ≡ false
  unblocked false b c is = refl
  unblocked true true c is = refl
  unblocked true false c is = is

  pub safe_may : has_op o.table k ≡ true → MayDo (Some o) s x t k
  safe_may has = (has, legal, each-all (λ e. unblocked (is_open s e.by) (e.by == t) (stops_at o.kind o C V t k e) (free e)) V)

-- ---- the law

module _ (along : RunsAlong) (goes : RunGoesOn) (in_run : TransactionsInRun) (strikes : FirmAfterStrike) (firm_legal : FirmIsLegal) (nobody : FirmKeepsNobody) (safe_firm : SafeIsFirm)
    (exact : AdmittedWhereSafe) (atomic : CoveredIsAtomic) (keeps_order : CommitOrderKeeps) (ends_safe : LegalEndsAreSafe)
    (objects : List Object) (x : ℕ) (o : Object) (there : slice_get objects x ≡ Some o) (covered : IsCovered o) where
  -- commit order is legal
  pub legal_order : (H : List Event) → IsRun objects H → IsLegal o.table (Some o.table.initial) (ops (serial_at x H))
  legal_order H is_run = let orders = keeps_order objects H is_run in (atomic objects H x o is_run there covered (commits H) orders.0 (orders.1 x)).legal

  -- so what is admitted is safe
  may_safe : (H : List Event) (w t k base : ℕ) → IsRun objects H → is_open (summary H) t ≡ true → serial_state o x H ≡ Some base
      → MayFollow objects H (record { worker = w; kind = Op k t x }) → IsSafe o.table base (with_op (open_own x H) t k)
  may_safe H w t k base is_run open_now committed may =
      let e : Event = record { worker = w; kind = Op k t x } in
      let G : List Event = H ++ e ∷ [] in
      let going : IsRun objects G = goes objects H e is_run may in
      let order : serial_at x G ≡ serial_at x H = same_order x H w t k open_now in
      safe-same o.table base (open_own x G) (with_op (open_own x H) t k) (λ u. sym (own_more x H w t k open_now u))
      (ends_safe o.table x G base (ap (λ V. run o.table (Some o.table.initial) (ops V)) order ∙ committed) (λ es ends. legal_order (G ++ es) (ends_run goes objects es G going ends)))

  may_has : (H : List Event) (w t k : ℕ) → MayFollow objects H (record { worker = w; kind = Op k t x }) → has_op o.table k ≡ true
  may_has H w t k may = (subst (λ (found : Option Object). MayDo found (summary H) x t k) there may.1).0

  pub admits_the_safe : (H : List Event) (t : ℕ) → IsRun objects H → o.kind ≡ Escrow → is_open (summary H) t ≡ true → AdmitsTheSafe objects H x o t
  admits_the_safe H t is_run escrow open_now =
      let numeric = covers_escrow o covered escrow in
      let end = some_state (serial_state o x H) (legal_order H is_run) in
      let base : ℕ = end.0 in
      let forth : (w k : ℕ) → MayFollow objects H (record { worker = w; kind = Op k t x }) → (has_op o.table k ≡ true) × IsSafe o.table base (with_op (open_own x H) t k) =
      λ w k may. (may_has H w t k may, may_safe H w t k base is_run open_now end.1 may) in
      let back : (w k : ℕ) → (has_op o.table k ≡ true) × IsSafe o.table base (with_op (open_own x H) t k) → MayFollow objects H (record { worker = w; kind = Op k t x }) =
      λ w k h. (
        open_now,
        subst (λ (found : Option Object). MayDo found (summary H) x t k) (sym there)
            (safe_may along strikes firm_legal nobody safe_firm o (summary H) x t k base numeric escrow (in_run objects H is_run) open_now end.1 h.1 h.0),
      ) in
      record {
        base = base;
        committed = end.1;
        safe = λ w k. (forth w k, back w k);
        admitted = λ w k m idle inside.
            let rule = exact o.table o.amounts base m (open_own x H) t k numeric idle inside in
            ((λ may. (may_has H w t k may, rule.1 (forth w k may).1)), (λ h. back w k (h.0, rule.0 h.1)));
      }

pub escrow_admits_the_safe : RunsAlong → RunGoesOn → TransactionsInRun → FirmAfterStrike → FirmIsLegal → FirmKeepsNobody → SafeIsFirm → AdmittedWhereSafe → CoveredIsAtomic → CommitOrderKeeps → LegalEndsAreSafe
    → EscrowAdmitsTheSafe
escrow_admits_the_safe along goes in_run strikes firm_legal nobody safe_firm exact atomic keeps_order ends_safe objects H x o t is_run there covered escrow open_now =
    admits_the_safe along goes in_run strikes firm_legal nobody safe_firm exact atomic keeps_order ends_safe objects x o there covered H t is_run escrow open_now
