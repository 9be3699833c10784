-- Deferred update: each order that keeps what precedes is legal, and all end equieffective.
use Rattle.std.proofs.Common.{◌≡◌, ℕ, zero, suc, Bool, true, false, not, ◌&&◌, ◌||◌, ◌==◌, List, [], ◌∷◌, ◌++◌, filter, Contains, Option, Some, refl, sym, ap, ◌∙◌, inl, inr, append_assoc, subst, arith}
use Rattle.std.specs.List.{AllByRecursion}
use Rattle.std.proofs.lemmas.Bool.{cases_Bool, false≢true, true≢false, eqb-true, eq-eqb, or_parts}
use Rattle.std.proofs.lemmas.Grind.{flat_map-append}
use Rattle.type_table.specs.Run.{run, AreEqui}
use Rattle.type_table.specs.Commute.{CommuteForward}
use Rattle.type_table.specs.Laws.{RunsAlong, EndsInside, LegalEnds, EquiExtends}
use Rattle.type_table.specs.Lists.{ListsForward}
use Rattle.type_table.specs.declared.kind.Kind.{Kind}
use Rattle.type_table.specs.declared.kind.Kind.TheVariants.{Intentions}
use Rattle.object_trait.specs.Object.{Object, IsCovered}
use Rattle.type_table.proofs.Legal.{legal-front, legal-behind, legal-after}
use Rattle.type_table.proofs.Elements.{eqb-sym, each-append, each-weaker, each-both, each-passes, each-map}
use Rattle.serial_order.specs.Operations.{is_among, is_by, ops, of, serial}
use Rattle.dynamic_atomicity.specs.Dynamic.{Dated, undated, AreOnce, comes_first, ComesAfterCommitted, KeepsDated}
use Rattle.serial_order.specs.declared.entry.Entry.{Entry}
use Rattle.serial_order.proofs.Facts.{IsLegalAt}
use Rattle.serial_order.proofs.Lists.{ops-append, serial-snoc, serial-apart, of-more}
use Rattle.serial_order.proofs.Pairs.{each-front, each-rest, each-at}
use Rattle.serial_order.proofs.Legal.{run-equi}
use Rattle.dynamic_atomicity.proofs.Before.{first-inside, first-front, first-before, among-append, among-filter, once-front, once-rest, once-apart, once-append, once-filter, rest-outside, rest-without, split_at}
use Rattle.dynamic_atomicity.proofs.Grown.{IsFront, CameBy, Came, Grown, start, grows, grown-fresh, plain-append}
use Rattle.dynamic_atomicity.proofs.InRun.{covers_deferred}

-- ---- orders that keep what the dates say

-- the front of an order that keeps it
pub kept-front : (P Q : List ℕ) (D : List Dated) → KeepsDated (P ++ Q) D → KeepsDated P D
kept-front P Q D kept = each-weaker (λ b here inside t before. first-front P Q t b.entry.by inside (here (more b inside) t before)) D kept
  where
    more : (b : Dated) → is_among P b.entry.by ≡ true → is_among (P ++ Q) b.entry.by ≡ true
    more b inside = among-append P Q b.entry.by ∙ simp inside

-- those that had committed at some time, and then any others
pub kept-past : (C X : List ℕ) (D : List Dated) → AllByRecursion (λ (a : Dated). IsFront a.after C) D → AllByRecursion (λ (a : Dated). is_among a.after a.entry.by ≡ false) D → KeepsDated (C ++ X) D
kept-past C X D fronts fresh = each-both (λ a front fresh_here inside t before.
    let whole : C ++ X ≡ a.after ++ (front.rest ++ X) = ap (λ v. v ++ X) front.is ∙ append_assoc a.after front.rest X in
    subst (λ v. comes_first v t a.entry.by ≡ true) (sym whole) (first-inside a.after (front.rest ++ X) t a.entry.by before fresh_here)) D fronts fresh

-- ---- serial orders

pub serial-append : (P Q : List ℕ) (V : List Entry) → serial (P ++ Q) V ≡ serial P V ++ serial Q V
serial-append P Q V = flat_map-append (λ t. of t V) P Q

pub serial-nothing : (ts : List ℕ) → serial ts [] ≡ []
serial-nothing [] = refl
serial-nothing (t ∷ ts) = serial-nothing ts

-- what holds of each operation of these transactions holds of each of the serial order
each-serial : (P : Entry → Type 0) (ts : List ℕ) (V : List Entry) → AllByRecursion (λ e. is_among ts e.by ≡ true → P e) V → AllByRecursion P (serial ts V)
each-serial P [] V p = tt
each-serial P (t ∷ ts) V p =
    each-append P (of t V) (serial ts V)
    (each-passes P (is_by t) V (each-weaker (λ e here mine. here (own e mine)) V p))
    (each-serial P ts V (each-weaker (λ e here inside. here (later e inside)) V p))
  where
    own : (e : Entry) → is_by t e ≡ true → is_among (t ∷ ts) e.by ≡ true
    own e mine = let same : (t == e.by) ≡ true = eqb-sym t e.by ∙ mine in simp same

    later : (e : Entry) → is_among ts e.by ≡ true → is_among (t ∷ ts) e.by ≡ true
    later e inside = elim (cases_Bool (t == e.by)) [ inl is ↦ simp is | inr isnt ↦ simp isnt inside ]

-- ---- an operation and the operations of others

module _ (along : RunsAlong) (inside : EndsInside) (ends : LegalEnds) (equi : EquiExtends) (forward : ListsForward) (o : Object) (covered : IsCovered o) (kind : o.kind ≡ Intentions) where
  abbrev begin : Option ℕ
  begin = Some o.table.initial

  abbrev at : List ℕ → Option ℕ
  at w = run o.table begin w

  only_one : (k p : ℕ) → Contains (k ∷ []) p → k ≡ p
  only_one k p (zero, below, is) = is
  only_one k p (suc i, below, is) = absurd (omega (arith, below))

  -- an operation came free and legal
  came_deferred : (D : List Dated) (b : Dated) → Came o D b → CameBy Intentions o D b
  came_deferred D b came = subst (λ (way : Kind). CameBy way o D b) kind came.known

  -- an operation, and a list of which it commutes forward with each, both legal after X
  past : (X w : List ℕ) (k : ℕ) → AllByRecursion (λ q. CommuteForward o.table o.set k q) w → IsLegalAt o (X ++ k ∷ []) → IsLegalAt o (X ++ w) →
      IsLegalAt o (X ++ k ∷ w) × IsLegalAt o (X ++ (w ++ k ∷ [])) × AreEqui o.table (at (X ++ k ∷ w)) (at (X ++ (w ++ k ∷ [])))
  past X w k free one many =
      let T = o.table in
      let reached = ends T begin X (legal-front T begin X w many) in
      let covers = covers_deferred o covered kind in
      let member = inside T o.set o.table.initial reached.0 X covers.closed covers.begins_inside reached.1 in
      let joined = forward T o.set reached.0 (k ∷ []) w covers.closed member
      (λ p q p_in q_in. rw (only_one k p p_in) at (each-at (λ q. CommuteForward o.table o.set k q) w q free q_in))
      (legal-behind along T begin X (k ∷ []) reached.0 reached.1 one) (legal-behind along T begin X w reached.0 reached.1 many) in (
        legal-after along T begin X (k ∷ w) reached.0 reached.1 joined.0,
        legal-after along T begin X (w ++ k ∷ []) reached.0 reached.1 joined.1,
        rw (along T begin X (k ∷ w), along T begin X (w ++ k ∷ []), reached.1) joined.2,
      )

  -- the serial order of transactions that aren't b's and hadn't committed before b: b commutes forward with each operation
  apart-free : (D : List Dated) (b : Dated) (W : List ℕ) → Came o D b
      → ((t : ℕ) → is_among W t ≡ true → (is_among b.after t ≡ false) × ((b.entry.by == t) ≡ false))
      → AllByRecursion (λ q. CommuteForward o.table o.set b.entry.op q) (ops (serial W (undated D)))
  apart-free D b W came apart =
      each-map (λ q. CommuteForward o.table o.set b.entry.op q) (λ (e : Entry). e.op) (serial W (undated D))
      (each-serial (λ e. CommuteForward o.table o.set b.entry.op e.op) W (undated D)
      (each-weaker (λ e free among. (covers_deferred o covered kind).commute b.entry.op e.op (free (apart e.by among).0 (apart e.by among).1)) (undated D) (came_deferred D b came).0))

  -- ---- what is claimed of a list of dated operations

  abbrev Claim : List Dated → Type 0
  Claim D =
      (ts us : List ℕ) → AreOnce ts → AreOnce us → KeepsDated ts D → KeepsDated us D → ((t : ℕ) → is_among ts t ≡ is_among us t)
      → IsLegalAt o (ops (serial ts (undated D))) × AreEqui o.table (at (ops (serial ts (undated D)))) (at (ops (serial us (undated D))))

  module _ (D : List Dated) (b : Dated) (came : Came o D b) (grown : Grown o D) (claim : Claim D) where
    abbrev V : List Entry
    V = undated D

    abbrev C : List ℕ
    C = b.after

    abbrev u : ℕ
    u = b.entry.by

    abbrev k : ℕ
    k = b.entry.op

    -- those of an order's front that hadn't committed
    abbrev rest_of : List ℕ → List ℕ
    rest_of P = filter (λ t. not (is_among C t)) P

    -- it goes on where the front of the order ends: those that had committed, b's transaction, and the rest of the front
    same_members : (P : List ℕ) → ((t : ℕ) → is_among C t ≡ true → is_among P t ≡ true) → (t : ℕ) → is_among (C ++ u ∷ rest_of P) t ≡ is_among (P ++ u ∷ []) t
    same_members P within t =
        among-append C (u ∷ rest_of P) t ∙ by_cases ∙ sym (among-append P (u ∷ []) t)
      where
        decided : (c p m : Bool) → (c ≡ true → p ≡ true) → (c || (m || (not c && p))) ≡ (p || (m || false))
        decided true true m leads = refl
        decided true false m leads = absurd (false≢true (leads refl))
        decided false true true leads = refl
        decided false true false leads = refl
        decided false false true leads = refl
        decided false false false leads = refl

        by_cases : (is_among C t || is_among (u ∷ rest_of P) t) ≡ (is_among P t || is_among (u ∷ []) t)
        by_cases = rw (among-filter (λ v. not (is_among C v)) P t) (decided (is_among C t) (is_among P t) (u == t) (within t))

    -- each once
    past_once : (P : List ℕ) → AreOnce P → is_among P u ≡ false → AreOnce (C ++ u ∷ rest_of P)
    past_once P once apart = once-append C (u ∷ rest_of P) came.once (none, once-filter (λ t. not (is_among C t)) P once) outside
      where
        none : is_among (rest_of P) u ≡ false
        none = rest-without C P u apart

        outside : (t : ℕ) → is_among (u ∷ rest_of P) t ≡ true → is_among C t ≡ false
        outside t behind = elim (cases_Bool (u == t)) [
          | inl is ↦ rw (eqb-true u t is) at came.fresh
          | inr isnt ↦ (rest-outside C P t (simp isnt at behind)).0
        ]

    -- b is legal after the operations of an order that ends with its transaction
    own : (P : List ℕ) → AreOnce (P ++ u ∷ []) → is_among P u ≡ false → KeepsDated (P ++ u ∷ []) D → ((t : ℕ) → is_among C t ≡ true → is_among P t ≡ true) →
        IsLegalAt o (ops (serial (P ++ u ∷ []) V) ++ k ∷ [])
    own P once apart kept within =
        let A = C ++ u ∷ rest_of P in
        let two = claim A (P ++ u ∷ []) (past_once P (once-front P (u ∷ []) once) apart) once (kept-past C (u ∷ rest_of P) D came.later (grown-fresh o D grown)) kept (same_members P within) in
        let X = ops (serial C V ++ of u V) in
        let whole : ops (serial A V) ≡ X ++ ops (serial (rest_of P) V) =
        ap ops (serial-append C (u ∷ rest_of P) V ∙ sym (append_assoc (serial C V) (of u V) (serial (rest_of P) V))) ∙ ops-append (serial C V ++ of u V) (serial (rest_of P) V) in
        let moved = past X (ops (serial (rest_of P) V)) k (apart-free D b (rest_of P) came others) (came_deferred D b came).1 (rw whole at two.0) in
        let legal : IsLegalAt o (ops (serial A V) ++ k ∷ []) = rw (whole, append_assoc X (ops (serial (rest_of P) V)) (k ∷ [])) moved.1 in
        rw (along o.table begin (ops (serial (P ++ u ∷ []) V)) (k ∷ []))
        ((equi o.table).after (at (ops (serial A V))) (at (ops (serial (P ++ u ∷ []) V))) (k ∷ []) two.1 (rw (along o.table begin (ops (serial A V)) (k ∷ [])) at legal)).0
      where
        others : (t : ℕ) → is_among (rest_of P) t ≡ true → (is_among C t ≡ false) × ((u == t) ≡ false)
        others t among =
            let parts = rest-outside C P t among in (
              parts.0,
              elim (cases_Bool (u == t)) [
                | inl is ↦ absurd (false≢true (sym (rw (eqb-true u t is) at apart) ∙ parts.1))
                | inr isnt ↦ isnt
              ],
            )

    -- an order with b's transaction in it: legal with b in its place, and equieffective to b after the whole
    in_place : (P Q : List ℕ) → AreOnce (P ++ u ∷ Q) → is_among P u ≡ false → KeepsDated (P ++ u ∷ Q) D → ((t : ℕ) → is_among C t ≡ true → comes_first (P ++ u ∷ Q) t u ≡ true) →
        IsLegalAt o (ops (serial (P ++ u ∷ Q) (undated (D ++ b ∷ []))))
        × AreEqui o.table (at (ops (serial (P ++ u ∷ Q) (undated (D ++ b ∷ []))))) (at (ops (serial (P ++ u ∷ Q) V) ++ k ∷ []))
    in_place P Q once apart kept first =
        let within : (t : ℕ) → is_among C t ≡ true → is_among P t ≡ true = λ t before. first-before P Q t u apart (first t before) in
        let longer : (P ++ u ∷ []) ++ Q ≡ P ++ u ∷ Q = append_assoc P (u ∷ []) Q in
        let once_long : AreOnce ((P ++ u ∷ []) ++ Q) = rw longer once in
        let kept_long : KeepsDated ((P ++ u ∷ []) ++ Q) D = rw longer kept in
        let one = own P (once-front (P ++ u ∷ []) Q once_long) apart (kept-front (P ++ u ∷ []) Q D kept_long) within in
        let X = ops (serial (P ++ u ∷ []) V) in
        let w = ops (serial Q V) in
        let whole : ops (serial (P ++ u ∷ Q) V) ≡ X ++ w = ap (λ v. ops (serial v V)) (sym longer) ∙ ap ops (serial-append (P ++ u ∷ []) Q V) ∙ ops-append (serial (P ++ u ∷ []) V) (serial Q V) in
        let all = claim (P ++ u ∷ Q) (P ++ u ∷ Q) once once kept kept (λ t. refl) in
        let moved = past X w k (apart-free D b Q came (others once_long within)) one (rw whole at all.0) in
        rw (new, whole, append_assoc X w (k ∷ [])) (moved.0, moved.2)
      where
        others : AreOnce ((P ++ u ∷ []) ++ Q) → ((t : ℕ) → is_among C t ≡ true → is_among P t ≡ true) → (t : ℕ) → is_among Q t ≡ true → (is_among C t ≡ false) × ((u == t) ≡ false)
        others once_long within t among =
            let outside = or_parts (is_among P t) (is_among (u ∷ []) t) (sym (among-append P (u ∷ []) t) ∙ once-apart (P ++ u ∷ []) Q t once_long among) in (
              elim (cases_Bool (is_among C t)) [
                | inl before ↦ absurd (true≢false (sym (within t before) ∙ outside.0))
                | inr later ↦ later
              ],
              (or_parts (u == t) false outside.1).0,
            )

        new : ops (serial (P ++ u ∷ Q) (undated (D ++ b ∷ []))) ≡ ops (serial (P ++ u ∷ []) V) ++ k ∷ ops (serial Q V)
        new =
            ap (λ W. ops (serial (P ++ u ∷ Q) W)) (plain-append D (b ∷ []))
            ∙ ap ops (serial-append P (u ∷ Q) (V ++ b.entry ∷ []) ∙ placed_in ∙ sym (append_assoc (serial P V) (of u V) (b.entry ∷ serial Q V)) ∙ ap (λ W. W ++ b.entry ∷ serial Q V) (sym (serial-snoc P u V)))
            ∙ ops-append (serial (P ++ u ∷ []) V) (b.entry ∷ serial Q V)
          where
            mine : is_by u b.entry ≡ true
            mine = eq-eqb u u refl

            behind : is_among Q u ≡ false
            behind = (once-rest P (u ∷ Q) once).0

            placed_in : serial P (V ++ b.entry ∷ []) ++ (of u (V ++ b.entry ∷ []) ++ serial Q (V ++ b.entry ∷ [])) ≡ serial P V ++ (of u V ++ (b.entry ∷ serial Q V))
            placed_in = rw (serial-apart P V b.entry apart, of-more u V b.entry mine, serial-apart Q V b.entry behind, append_assoc (of u V) (b.entry ∷ []) (serial Q V)) refl

    -- of any order with b's transaction in it
    placed : (ts : List ℕ) → AreOnce ts → KeepsDated ts (D ++ b ∷ []) → is_among ts u ≡ true →
        IsLegalAt o (ops (serial ts (undated (D ++ b ∷ []))))
        × AreEqui o.table (at (ops (serial ts (undated (D ++ b ∷ []))))) (at (ops (serial ts V) ++ k ∷ []))
    placed ts once kept among =
        let s = split_at ts u among in
        let kept_before : KeepsDated ts D = each-front (ComesAfterCommitted ts) D (b ∷ []) kept in
        let kept_here : (t : ℕ) → is_among C t ≡ true → comes_first ts t u ≡ true =
        (each-rest (ComesAfterCommitted ts) D (b ∷ []) kept).0 among in
        subst (λ v. IsLegalAt o (ops (serial v (undated (D ++ b ∷ [])))) × AreEqui o.table (at (ops (serial v (undated (D ++ b ∷ []))))) (at (ops (serial v V) ++ k ∷ []))) (sym s.is)
        (in_place s.front s.rest (subst AreOnce s.is once) s.apart (subst (λ v. KeepsDated v D) s.is kept_before)
        (subst (λ v. (t : ℕ) → is_among C t ≡ true → comes_first v t u ≡ true) s.is kept_here))

    -- and of one without it
    left_out : (ts : List ℕ) → is_among ts u ≡ false → serial ts (undated (D ++ b ∷ [])) ≡ serial ts V
    left_out ts apart = ap (serial ts) (plain-append D (b ∷ [])) ∙ serial-apart ts V b.entry apart

    -- the claim of one more
    claim_more : Claim (D ++ b ∷ [])
    claim_more ts us ts_once us_once ts_kept us_kept same =
        let before = claim ts us ts_once us_once (each-front (ComesAfterCommitted ts) D (b ∷ []) ts_kept) (each-front (ComesAfterCommitted us) D (b ∷ []) us_kept) same in
        elim (cases_Bool (is_among ts u)) [
          | inl among ↦
              let first = placed ts ts_once ts_kept among in
              let second = placed us us_once us_kept (sym (same u) ∙ among) in
              let between : AreEqui o.table (at (ops (serial ts V) ++ k ∷ [])) (at (ops (serial us V) ++ k ∷ [])) =
              rw (along o.table begin (ops (serial ts V)) (k ∷ []), along o.table begin (ops (serial us V)) (k ∷ [])) (run-equi along o.table (at (ops (serial ts V))) (at (ops (serial us V))) (k ∷ []) before.1) in (
                first.0,
                (equi o.table).through (at (ops (serial ts (undated (D ++ b ∷ []))))) (at (ops (serial ts V) ++ k ∷ [])) (at (ops (serial us (undated (D ++ b ∷ []))))) first.1
                    ((equi o.table).through (at (ops (serial ts V) ++ k ∷ [])) (at (ops (serial us V) ++ k ∷ [])) (at (ops (serial us (undated (D ++ b ∷ []))))) between (second.1.1, second.1.0)),
              )
          | inr outside ↦ rw (left_out ts outside, left_out us (sym (same u) ∙ outside)) before
        ]

  -- the claim of no operations
  nothing : Claim []
  nothing ts us ts_once us_once ts_kept us_kept same = rw (serial-nothing ts, serial-nothing us) (refl, (λ ks h. h, λ ks h. h))

  -- the claim of each list
  pub any_order : (D : List Dated) → Grown o D → Claim D
  any_order _ start = nothing
  any_order _ (grows {D} {b} g came) = claim_more D b came g (any_order D g)
