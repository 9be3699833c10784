-- The dated operations of a run: they are what survives, and they grew.
use Rattle.std.proofs.Common.{◌≡◌, ℕ, ◌-◌, true, false, ◌==◌, List, [], ◌∷◌, ◌++◌, filter, length, fold, Option, Some, slice_get, refl, sym, ap, ◌∙◌, subst, ⊎_elim, append-nil, append_assoc}
use Rattle.std.specs.List.{AllByRecursion}
use Rattle.std.proofs.lemmas.Bool.{cases_Bool, eqb-true, eq-eqb}
use Rattle.std.proofs.lemmas.List.{length-map}
use Rattle.type_table.specs.declared.kind.Kind.{Kind}
use Rattle.type_table.specs.declared.kind.Kind.TheVariants.{Undo, Intentions, Escrow}
use Rattle.escrow_laws.specs.Laws.{FirmAfterStrike}
use Rattle.object_trait.specs.Object.{Object}
use Rattle.object_trait.specs.Strike.{keep_first}
use Rattle.object_trait.specs.declared.event.Event.{Event}
use Rattle.object_trait.specs.declared.event.EventKind.{EventKind}
use Rattle.object_trait.specs.declared.event.EventKind.TheVariants as kind
use Rattle.object_trait.specs.declared.event.EventKind.TheVariants.{Begin, Op, Busy, Commit, Abort, Rollback}
use Rattle.object_trait.proofs.Striking.{each-keep_first}
use Rattle.type_table.proofs.Elements.{each-append, each-weaker}
use Rattle.serial_order.specs.Operations.{is_among, at_object, is_by, of, ops, serial}
use Rattle.serial_order.specs.History.{Summary, summary, is_open, commits, committed_by, surviving, survive_after}
use Rattle.serial_order.specs.View.{view, is_legal_after}
use Rattle.serial_order.specs.Machine.{May, MayDo, IsRun}
use Rattle.serial_order.specs.Serial.{surviving_at}
use Rattle.serial_order.specs.After.{AreInRun}
use Rattle.dynamic_atomicity.specs.Dynamic.{Dated, dated_by, undated, dated_after, dated_from, dated, dated_at, AreOnce}
use Rattle.serial_order.specs.declared.entry.Entry.{Entry}
use Rattle.serial_order.proofs.Strikes.{keep_first-part}
use Rattle.serial_order.proofs.Facts.{IsAdmitted, IsLegalAt, free_undo, free_deferred}
use Rattle.serial_order.proofs.Escrow.{EscrowFacts}
use Rattle.serial_order.proofs.Lists.{filter-more, filter-apart}
use Rattle.serial_order.proofs.Events.{commits-snoc}
use Rattle.serial_order.proofs.Runs.{in_run, transactions_in_run, open_is_uncommitted}
use Rattle.dynamic_atomicity.proofs.Before.{once-more}
use Rattle.dynamic_atomicity.proofs.Grown.{IsFront, front-more, front-itself, front-outside, CameBy, Grown, start, grows, plain-append, plain-keep_first, plain-filter, grown-strike}
use Rattle.dynamic_atomicity.proofs.InRun.{free_at}

-- ---- one more event

dated_from-snoc : (C : List ℕ) (D : List Dated) (H : List Event) (e : Event) → dated_from C D (H ++ e ∷ []) ≡ dated_after (C ++ commits H) (dated_from C D H) e.kind
dated_from-snoc C D [] e = rw (append-nil C) refl
dated_from-snoc C D (f ∷ H) e =
    dated_from-snoc (C ++ committed_by f.kind) (dated_after C D f.kind) H e
    ∙ ap (λ B. dated_after B (dated_from (C ++ committed_by f.kind) (dated_after C D f.kind) H) e.kind) (append_assoc C (committed_by f.kind) (commits H))

pub dated-snoc : (H : List Event) (e : Event) → dated (H ++ e ∷ []) ≡ dated_after (commits H) (dated H) e.kind
dated-snoc H e = dated_from-snoc [] [] H e

-- ---- they are what survives

plain-after : (C : List ℕ) (D : List Dated) (happened : EventKind) → undated (dated_after C D happened) ≡ survive_after (undated D) happened
plain-after C D (Begin t) = refl
plain-after C D (Op k t x) = plain-append D ((record { entry = record { by = t; at = x; op = k }; after = C }) ∷ [])
plain-after C D (Busy c t x u) = refl
plain-after C D (kind.None t x c) = refl
plain-after C D (Commit t) = refl
plain-after C D (Abort t) = plain-keep_first (is_by t) 0 D
plain-after C D (Rollback t n) =
    plain-keep_first (is_by t) (length (filter (dated_by t) D) - n) D
    ∙ ap (λ m. keep_first (is_by t) (m - n) (undated D)) (sym (length-map (filter (dated_by t) D) (λ (d : Dated). d.entry)) ∙ ap length (plain-filter (is_by t) D))

plain-from : (C : List ℕ) (D : List Dated) (H : List Event) → undated (dated_from C D H) ≡ fold (λ V (e : Event). survive_after V e.kind) (undated D) H
plain-from C D [] = refl
plain-from C D (e ∷ H) =
    plain-from (C ++ committed_by e.kind) (dated_after C D e.kind) H
    ∙ ap (λ V. fold (λ V (e : Event). survive_after V e.kind) V H) (plain-after C D e.kind)

pub plain-dated : (H : List Event) → undated (dated H) ≡ surviving H
plain-dated H = plain-from [] [] H

pub plain-dated_at : (x : ℕ) (H : List Event) → undated (dated_at x H) ≡ surviving_at x H
plain-dated_at x H = plain-filter (λ e. e.at == x) (dated H) ∙ ap (at_object x) (plain-dated H)

-- ---- in a run

-- what is known of the dated operations at x
pub record AreDated (o : Object) (C : List ℕ) (D : List Dated) : Type 0 where
  pub grown : Grown o D
  pub fronts : AllByRecursion (λ (d : Dated). IsFront d.after C) D
  pub once : AreOnce C

-- how an object under escrow stays so by an operation
abbrev pub EscrowOp : Object → Type 0
EscrowOp o =
    o.kind ≡ Escrow → (C : List ℕ) (V : List Entry) (e : Entry) → IsAdmitted o C V e → IsLegalAt o (ops (serial C V ++ of e.by V) ++ e.op ∷ []) → EscrowFacts o C V → EscrowFacts o C (V ++ e ∷ [])

module _ (strikes : FirmAfterStrike) (objects : List Object) (x : ℕ) (o : Object) (there : slice_get objects x ≡ Some o) (escrow_more : EscrowOp o) where
  -- no commit
  same_committed : (C : List ℕ) (D : List Dated) → AreDated o C D → AreDated o (C ++ []) D
  same_committed C D h = rw (append-nil C) h

  -- one more operation
  one_more : (C : List ℕ) (D : List Dated) (e : Entry) → is_among C e.by ≡ false → CameBy o.kind o D (record { entry = e; after = C }) → AreDated o C D → AreDated o C (D ++ (record { entry = e; after = C }) ∷ [])
  one_more C D e uncommitted known h = record {
    grown = grows h.grown (record { fresh = uncommitted; once = h.once; later = h.fronts; known = known });
    fronts = each-append (λ (d : Dated). IsFront d.after C) D ((record { entry = e; after = C }) ∷ []) h.fronts (front-itself C, tt);
    once = h.once;
  }

  -- a strike
  struck_some : (C : List ℕ) (D : List Dated) (t n : ℕ) → is_among C t ≡ false → AreDated o C D → AreDated o C (keep_first (dated_by t) n D)
  struck_some C D t n pending h = record {
    grown = grown-strike strikes o t n D (each-weaker (λ (d : Dated) front. front-outside d.after C t front pending) D h.fronts) h.grown;
    fronts = each-keep_first (λ (d : Dated). IsFront d.after C) (dated_by t) n D h.fronts;
    once = h.once;
  }

  -- a commit
  one_commit : (C : List ℕ) (D : List Dated) (t : ℕ) → is_among C t ≡ false → AreDated o C D → AreDated o (C ++ t ∷ []) D
  one_commit C D t pending h = record {
    grown = h.grown;
    fronts = each-weaker (λ (d : Dated) front. front-more d.after C t front) D h.fronts;
    once = once-more C t pending h.once;
  }

  -- ---- each event

  abbrev here : List Dated → List Dated
  here D = filter (λ (d : Dated). d.entry.at == x) D

  -- by ways of recovery, what is so of an operation that the machine allows
  came_now : (way : Kind) → o.kind ≡ way → (s : Summary) (t k : ℕ) → IsAdmitted o s.committed (at_object x s.survives) (record { by = t; at = x; op = k }) → is_legal_after o (view way s x t) k ≡ true
      → (way ≡ Escrow → EscrowFacts o s.committed (at_object x s.survives)) → (D : List Dated) → undated D ≡ at_object x s.survives → CameBy way o D (record { entry = record { by = t; at = x; op = k }; after = s.committed })
  came_now Undo is s t k admitted legal facts D are = rw are (free_undo o s.committed (at_object x s.survives) (record { by = t; at = x; op = k }) is admitted).free
  came_now Intentions is s t k admitted legal facts D are = (rw are (free_deferred o s.committed (at_object x s.survives) (record { by = t; at = x; op = k }) is admitted).free, rw are legal)
  came_now Escrow is s t k admitted legal facts D are = rw are (escrow_more is s.committed (at_object x s.survives) (record { by = t; at = x; op = k }) admitted legal (facts refl))

  -- what is known at an object under escrow
  abbrev pub Firm : Summary → Type 0
  Firm s = o.kind ≡ Escrow → EscrowFacts o s.committed (at_object x s.survives)

  -- an operation at x
  op_here : (s : Summary) (D : List Dated) (t k : ℕ) → undated (here D) ≡ at_object x s.survives → AreInRun s → is_open s t ≡ true → MayDo (slice_get objects x) s x t k → Firm s
      → AreDated o s.committed (here D) → AreDated o s.committed (here (D ++ (record { entry = record { by = t; at = x; op = k }; after = s.committed }) ∷ []))
  op_here s D t k are known open_now may firm h =
      let allowed : MayDo (Some o) s x t k = subst (λ (found : Option Object). MayDo found s x t k) there may in
      let e : Entry = record { by = t; at = x; op = k } in
      let admitted = free_at o s x t k known open_now allowed.2 in
      rw (filter-more (λ (d : Dated). d.entry.at == x) D (record { entry = e; after = s.committed }) (eq-eqb x x refl))
      (one_more s.committed (here D) e admitted.uncommitted (came_now o.kind refl s t k admitted allowed.1 firm (here D) are) h)

  step : (H : List Event) (happened : EventKind) → undated (here (dated H)) ≡ at_object x (surviving H) → AreInRun (summary H) → May objects (summary H) happened → Firm (summary H)
      → AreDated o (commits H) (here (dated H)) → AreDated o (commits H ++ committed_by happened) (here (dated_after (commits H) (dated H) happened))
  step H (Begin t) are known may firm h = same_committed (commits H) (here (dated H)) h
  step H (Op k t y) are known may firm h = same_committed (commits H) _ (⊎_elim
      (λ (at_x : (y == x) ≡ true). subst (λ z. AreDated o (commits H) (here (dated H ++ (record { entry = record { by = t; at = z; op = k }; after = commits H }) ∷ []))) (sym (eqb-true y x at_x))
      (op_here (summary H) (dated H) t k are known may.0 (subst (λ z. MayDo (slice_get objects z) (summary H) z t k) (eqb-true y x at_x) may.1) firm h))
      (λ (elsewhere : (y == x) ≡ false). rw (filter-apart (λ (d : Dated). d.entry.at == x) (dated H) (record { entry = record { by = t; at = y; op = k }; after = commits H }) elsewhere) h)
      (cases_Bool (y == x)))
  step H (Busy c t y u) are known may firm h = same_committed (commits H) (here (dated H)) h
  step H (kind.None t y c) are known may firm h = same_committed (commits H) (here (dated H)) h
  step H (Commit t) are known may firm h = one_commit (commits H) (here (dated H)) t (open_is_uncommitted (summary H) t may) h
  step H (Abort t) are known may firm h = same_committed (commits H) _ (rw (keep_first-part (λ (d : Dated). d.entry.at == x) (dated_by t) 0 (dated H)) (struck_some (commits H) (here (dated H)) t _ (open_is_uncommitted (summary H) t may) h))
  step H (Rollback t n) are known may firm h =
      same_committed (commits H) _ (rw (keep_first-part (λ (d : Dated). d.entry.at == x) (dated_by t) (length (filter (dated_by t) (dated H)) - n) (dated H)) (struck_some (commits H) (here (dated H)) t _ (open_is_uncommitted (summary H) t may.0) h))

  pub dated_in_run : ((H : List Event) → IsRun objects H → Firm (summary H)) → (H : List Event) → IsRun objects H → AreDated o (commits H) (dated_at x H)
  dated_in_run firm H run = in_run objects (λ G. AreDated o (commits G) (dated_at x G)) (record { grown = start; fronts = tt; once = tt })
      (λ G e going may h. rw (commits-snoc G e, dated-snoc G e) (step G e.kind (plain-dated_at x G) (transactions_in_run objects G going) may (firm G going) h)) H run
