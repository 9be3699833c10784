-- The machine at an object that begins at the committed state: the next carried operation may be done again.
use Rattle.std.proofs.Common.{◌≡◌, ℕ, Bool, true, false, cond, not, ◌&&◌, ◌==◌, List, [], ◌∷◌, ◌++◌, map, Option, Some, refl, sym, ap, subst, ◌∙◌, inl, inr, append_assoc}
use Rattle.std.specs.List.{AllByRecursion}
use Rattle.std.proofs.lemmas.Bool.{cases_Bool, eqb-true, eq-eqb}
use Rattle.std.proofs.Math.Bool.{and-false}
use Rattle.std.proofs.lemmas.List.{map-append}
use Rattle.std.proofs.lemmas.List.Elements.{filter-append}
use Rattle.type_table.specs.Table.{has_op}
use Rattle.type_table.specs.Run.{run, IsLegal}
use Rattle.type_table.specs.declared.kind.Kind.{Kind}
use Rattle.type_table.specs.declared.kind.Kind.TheVariants.{Undo, Intentions, Escrow}
use Rattle.type_table.proofs.Elements.{each-map, each-weaker, filter-all, eqb-sym}
use Rattle.type_table.proofs.Legal.{legal-front}
use Rattle.escrow_laws.specs.Laws.{FirmKeepsNobody, FirmAfterStrike, SafeIsFirm}
use Rattle.escrow_laws.specs.Firm.{IsFirm, with_op}
use Rattle.escrow_laws.specs.Safe.{IsSafe}
use Rattle.object_trait.specs.Object.{Object, IsCovered}
use Rattle.object_trait.specs.Orders.{Pairs}
use Rattle.serial_order.specs.Operations.{is_among, is_by, at_object, ops, of, pending}
use Rattle.serial_order.specs.History.{Summary, is_open}
use Rattle.serial_order.specs.View.{view, is_legal_after, conflicts_with, stops_at, own_at, above_at}
use Rattle.serial_order.specs.Machine.{MayDo}
use Rattle.serial_order.specs.declared.entry.Entry.{Entry}
use Rattle.serial_order.proofs.Pairs.{each-all}
use Rattle.serial_order.proofs.Lists.{ops-append}
use Rattle.serial_order.proofs.Escrow.{covers_escrow}
use Rattle.carried_runs.specs.Carried.{number_in, renumbered, carried_summary}
use Rattle.carried_runs.specs.OldNumbers.{owner_of}
use Rattle.carried_runs.proofs.Renumbering.{AreApart, AreLess, owner-one, owner-number, at-renumbered, ops-renumbered, ops_of-renumbered}
use Rattle.carried_runs.proofs.Numbers.{safe-named}

-- ---- what is known

-- the object as it begins at another state
pub record BeginsAt (o new : Object) (s : ℕ) : Type 0 where
  pub kind : new.kind ≡ o.kind
  pub initial : new.table.initial ≡ s
  pub runs : (from : Option ℕ) (ks : List ℕ) → run new.table from ks ≡ run o.table from ks
  pub has : (k : ℕ) → has_op new.table k ≡ has_op o.table k
  pub conflicts : (p q : ℕ) → new.conflicts p q ≡ o.conflicts p q
  pub covered : IsCovered new

-- what another transaction did later doesn't conflict
abbrev pub IsFreeAfter : Object → Entry → Entry → Type 0
IsFreeAfter o a b = (b.by == a.by) ≡ false → o.conflicts b.op a.op ≡ false

-- what the carried transactions P did at an object is held there from s on. In place
pub record HeldUndo (o : Object) (s : ℕ) (P : List ℕ) (U : List Entry) : Type 0 where
  pub legal : IsLegal o.table (Some s) (ops U)
  pub free : Pairs (IsFreeAfter o) U

-- deferred
pub record HeldIntentions (o : Object) (s : ℕ) (P : List ℕ) (U : List Entry) : Type 0 where
  pub legal : (t : ℕ) → is_among P t ≡ true → IsLegal o.table (Some s) (ops (of t U))
  pub free : Pairs (IsFreeAfter o) U

-- in escrow
pub record HeldEscrow (o : Object) (s : ℕ) (P : List ℕ) (U : List Entry) : Type 0 where
  pub legal : (t : ℕ) → is_among P t ≡ true → IsLegal o.table (Some s) (ops (of t U))
  pub safe : IsSafe o.table s (λ u. ops (of u U))

abbrev pub HeldBy : Kind → Object → ℕ → List ℕ → List Entry → Type 0
HeldBy Undo = HeldUndo
HeldBy Intentions = HeldIntentions
HeldBy Escrow = HeldEscrow

-- ---- lists

-- what holds of each and of one that comes later
pub pairs-before : {E : Type 0} (R : E → E → Type 0) (A B : List E) (e : E) → Pairs R (A ++ e ∷ B) → AllByRecursion (λ a. R a e) A
pairs-before R [] B e p = tt
pairs-before {E = E} R (x ∷ A) B e p = (at A p.0, pairs-before R A B e p.1)
  where
    at : (A : List E) → AllByRecursion (R x) (A ++ e ∷ B) → R x e
    at [] q = q.0
    at (y ∷ A) q = at A q.1

-- nothing has committed
pending-nothing : (V : List Entry) → pending [] V ≡ V
pending-nothing V = filter-all (λ e. not (is_among [] e.by)) V (each-all (λ e. refl) V)

-- those of u among some, one, and others
ops_of-split : (u : ℕ) (A B : List Entry) (e : Entry) → ops (of u (A ++ e ∷ B)) ≡ ops (of u A) ++ ops (of u (e ∷ B))
ops_of-split u A B e = ap ops (filter-append (is_by u) A (e ∷ B)) ∙ ops-append (of u A) (of u (e ∷ B))

-- where the one is of u
ops_of-mine : (u : ℕ) (A B : List Entry) (e : Entry) → (e.by == u) ≡ true → ops (of u (A ++ e ∷ B)) ≡ (ops (of u A) ++ e.op ∷ []) ++ ops (of u B)
ops_of-mine u A B e mine =
    ops_of-split u A B e ∙ ap (λ b. ops (of u A) ++ ops (cond b (e ∷ of u B) (of u B))) mine ∙ sym (append_assoc (ops (of u A)) (e.op ∷ []) (ops (of u B)))

ops_of-other : (u : ℕ) (A B : List Entry) (e : Entry) → (e.by == u) ≡ false → ops (of u (A ++ e ∷ B)) ≡ ops (of u A) ++ ops (of u B)
ops_of-other u A B e other = ops_of-split u A B e ∙ ap (λ b. ops (of u A) ++ ops (cond b (e ∷ of u B) (of u B))) other

-- ---- the next operation

module _ (o new : Object) (s : ℕ) (begins : BeginsAt o new s) (P : List ℕ) (n : ℕ) (apart : AreApart P) (less : AreLess n P) (x : ℕ) (W : List Entry) (e : Entry) (B : List Entry)
    (inside : AllByRecursion (λ a. is_among P a.by ≡ true) (at_object x W ++ e ∷ B)) where
  abbrev A : List Entry
  A = at_object x W

  abbrev S : Summary
  S = carried_summary P W

  abbrev t : ℕ
  t = number_in P e.by

  -- what was done there before
  before_inside : AllByRecursion (λ a. is_among P a.by ≡ true) A
  before_inside = front A inside
    where
      front : (V : List Entry) → AllByRecursion (λ a. is_among P a.by ≡ true) (V ++ e ∷ B) → AllByRecursion (λ a. is_among P a.by ≡ true) V
      front [] p = tt
      front (a ∷ V) p = (p.0, front V p.1)

  here_inside : is_among P e.by ≡ true
  here_inside = rest A inside
    where
      rest : (V : List Entry) → AllByRecursion (λ a. is_among P a.by ≡ true) (V ++ e ∷ B) → is_among P e.by ≡ true
      rest [] p = p.0
      rest (a ∷ V) p = rest V p.1

  -- legal from s is legal after what is there
  legal-again : (V : List Entry) (w : List ℕ) → ops V ≡ w → IsLegal o.table (Some s) (w ++ e.op ∷ []) → is_legal_after new V e.op ≡ true
  legal-again V w same legal = rw (same, begins.runs (Some new.table.initial) (w ++ e.op ∷ []), begins.initial) legal

  -- each earlier one keeps nobody from it
  free-again : AllByRecursion (λ a. (not (number_in P a.by == t) && stops_at new.kind new [] (at_object x S.survives) t e.op (renumbered P a)) ≡ false) A →
      AllByRecursion (λ a. conflicts_with new S x t e.op a ≡ false) (at_object x S.survives)
  free-again each =
      let known = each-weaker (λ a h. rw h (and-false (is_open S (number_in P a.by)))) A each in
      subst (AllByRecursion (λ a. conflicts_with new S x t e.op a ≡ false)) (sym (at-renumbered x P W))
      (each-map (λ a. conflicts_with new S x t e.op a ≡ false) (renumbered P) A known)

  -- of one transaction, or not stopped
  apart-or-free : (a : Entry) (stop : Bool) → ((e.by == a.by) ≡ false → stop ≡ false) → (not (number_in P a.by == t) && stop) ≡ false
  apart-or-free a stop free =
      elim (cases_Bool (e.by == a.by)) [
        | inl is ↦
            let numbered : (number_in P a.by == t) ≡ true = eq-eqb (number_in P a.by) t (ap (number_in P) (sym (eqb-true e.by a.by is))) in
            rw numbered refl
        | inr other ↦ rw (free other) (and-false (not (number_in P a.by == t)))
      ]

  -- by a conflict table
  by-table : (stops : (a : Entry) → stops_at new.kind new [] (at_object x S.survives) t e.op (renumbered P a) ≡ new.conflicts e.op a.op) → Pairs (IsFreeAfter o) (A ++ e ∷ B) →
      AllByRecursion (λ a. conflicts_with new S x t e.op a ≡ false) (at_object x S.survives)
  by-table stops free =
      free-again (each-weaker (λ a h. apart-or-free a (stops_at new.kind new [] (at_object x S.survives) t e.op (renumbered P a)) (λ other. stops a ∙ begins.conflicts e.op a.op ∙ h other)) A
      (pairs-before (IsFreeAfter o) A B e free))

  -- what its transaction did there before
  own-again : ops (of t (at_object x S.survives)) ≡ ops (of e.by A)
  own-again =
      ap (λ V. ops (of t V)) (at-renumbered x P W) ∙ ops_of-renumbered P n t A apart less before_inside
      ∙ ap (λ u. ops (of u A)) (owner-number P n e.by apart less here_inside)

  -- is legal from s with it
  own-legal : IsLegal o.table (Some s) (ops (of e.by (A ++ e ∷ B))) → IsLegal o.table (Some s) (ops (of e.by A) ++ e.op ∷ [])
  own-legal legal = legal-front o.table (Some s) (ops (of e.by A) ++ e.op ∷ []) (ops (of e.by B)) (rw (ops_of-mine e.by A B e (eq-eqb e.by e.by refl)) at legal)

  undo-again : o.kind ≡ Undo → HeldUndo o s P (A ++ e ∷ B) → has_op o.table e.op ≡ true → MayDo (Some new) S x t e.op
  undo-again is held has =
      let kind : new.kind ≡ Undo = begins.kind ∙ is in (
        begins.has e.op ∙ has,
        subst (λ (k : Kind). is_legal_after new (view k S x t) e.op ≡ true) (sym kind)
            (legal-again (at_object x S.survives) (ops A) (ap ops (at-renumbered x P W) ∙ ops-renumbered P A)
            (legal-front o.table (Some s) (ops A ++ e.op ∷ []) (ops B) (rw (ops-append A (e ∷ B), ← (append_assoc (ops A) (e.op ∷ []) (ops B))) at held.legal))),
        by-table (λ a. ap (λ (k : Kind). stops_at k new [] (at_object x S.survives) t e.op (renumbered P a)) kind) held.free,
      )

  deferred-again : o.kind ≡ Intentions → HeldIntentions o s P (A ++ e ∷ B) → has_op o.table e.op ≡ true → MayDo (Some new) S x t e.op
  deferred-again is held has =
      let kind : new.kind ≡ Intentions = begins.kind ∙ is in (
        begins.has e.op ∙ has,
        subst (λ (k : Kind). is_legal_after new (view k S x t) e.op ≡ true) (sym kind)
            (legal-again (of t (at_object x S.survives)) (ops (of e.by A)) own-again (own-legal (held.legal e.by here_inside))),
        by-table (λ a. ap (λ (k : Kind). stops_at k new [] (at_object x S.survives) t e.op (renumbered P a)) kind) held.free,
      )

  -- what each does there in the end
  abbrev done : ℕ → List ℕ
  done j = ops (of j (map (renumbered P) (A ++ e ∷ B)))

  done-safe : IsSafe o.table s (λ u. ops (of u (A ++ e ∷ B))) → IsSafe new.table s done
  done-safe safe = λ j ps others.
      rw (begins.runs (Some s)) (safe-named o.table s (owner_of P n) (λ u. ops (of u (A ++ e ∷ B))) done (λ i k. owner-one P n i k apart less)
      (λ i. ops_of-renumbered P n i (A ++ e ∷ B) apart less inside) safe j ps others)

  -- with it
  abbrev now : ℕ → List ℕ
  now = with_op (own_at [] (at_object x S.survives)) t e.op

  -- a front of what each does in the end
  now-front : (u : ℕ) → (struck : List ℕ) × (done u ≡ now u ++ struck)
  now-front u =
      let rest : List Entry = map (renumbered P) B in
      let before : ops (of u (map (renumbered P) A)) ≡ own_at [] (at_object x S.survives) u =
      ap (λ V. ops (of u V)) (sym (at-renumbered x P W) ∙ sym (pending-nothing (at_object x S.survives))) in
      let whole : done u ≡ ops (of u (map (renumbered P) A ++ renumbered P e ∷ rest)) = ap (λ V. ops (of u V)) (map-append (renumbered P) A (e ∷ B)) in (
        ops (of u rest),
        elim (cases_Bool (u == t)) [
          | inl mine ↦ rw mine (whole ∙ ops_of-mine u (map (renumbered P) A) rest (renumbered P e) (eqb-sym t u ∙ mine) ∙ ap (λ w. (w ++ e.op ∷ []) ++ ops (of u rest)) before)
          | inr other ↦ rw other (whole ∙ ops_of-other u (map (renumbered P) A) rest (renumbered P e) (eqb-sym t u ∙ other) ∙ ap (λ w. w ++ ops (of u rest)) before)
        ],
      )

  escrow-again : FirmKeepsNobody → FirmAfterStrike → SafeIsFirm → o.kind ≡ Escrow → HeldEscrow o s P (A ++ e ∷ B) → has_op o.table e.op ≡ true → MayDo (Some new) S x t e.op
  escrow-again keeps_nobody strikes is_firm is held has =
      let kind : new.kind ≡ Escrow = begins.kind ∙ is in
      let full = is_firm new.table new.amounts s done (covers_escrow new begins.covered kind) (done-safe held.safe) in
      let firm : IsFirm new.table new.amounts new.table.initial now =
      subst (λ b. IsFirm new.table new.amounts b now) (sym begins.initial) (strikes new.table new.amounts s done now full now-front) in
      let nobody : (a : Entry) → stops_at Escrow new [] (at_object x S.survives) t e.op (renumbered P a) ≡ false =
      λ a. keeps_nobody new.table new.amounts new.table.initial (above_at t (pending [] (at_object x S.survives))) now t (number_in P a.by) firm in (
        begins.has e.op ∙ has,
        subst (λ (k : Kind). is_legal_after new (view k S x t) e.op ≡ true) (sym kind)
            (legal-again (of t (at_object x S.survives)) (ops (of e.by A)) own-again (own-legal (held.legal e.by here_inside))),
        free-again (each-all (λ a. apart-or-free a (stops_at new.kind new [] (at_object x S.survives) t e.op (renumbered P a))
            (λ other. ap (λ (k : Kind). stops_at k new [] (at_object x S.survives) t e.op (renumbered P a)) kind ∙ nobody a)) A),
      )

  pub may-again : FirmKeepsNobody → FirmAfterStrike → SafeIsFirm → (kind : Kind) → o.kind ≡ kind → HeldBy kind o s P (A ++ e ∷ B) → has_op o.table e.op ≡ true → MayDo (Some new) S x t e.op
  may-again keeps_nobody strikes is_firm Undo is held has = undo-again is held has
  may-again keeps_nobody strikes is_firm Intentions is held has = deferred-again is held has
  may-again keeps_nobody strikes is_firm Escrow is held has = escrow-again keeps_nobody strikes is_firm is held has
