-- Escrow: each order that keeps what precedes is legal, and all end at the same number.
use Rattle.std.proofs.Common.{◌≡◌, ℕ, ◌+◌, Bool, true, false, not, ◌&&◌, ◌||◌, ◌==◌, List, [], ◌∷◌, ◌++◌, filter, length, Option, Some, refl, sym, ap, ◌∙◌, inl, inr, subst, append-nil, append_assoc, arith}
use Rattle.std.specs.List.{AllByRecursion}
use Rattle.std.proofs.lemmas.Bool.{cases_Bool, false≢true, true≢false, or_parts, eqb-true, eq-eqb}
use Rattle.std.proofs.lemmas.List.Elements.{filter_agree}
use Rattle.std.proofs.Math.Seq.{take-length}
use Rattle.type_table.specs.Table.{Table}
use Rattle.type_table.specs.Run.{run, IsLegal}
use Rattle.type_table.specs.Laws.{RunsAlong, LegalEnds}
use Rattle.type_table.specs.declared.kind.Kind.{Kind}
use Rattle.type_table.specs.declared.kind.Kind.TheVariants.{Escrow}
use Rattle.type_table.proofs.Elements.{eqb-sym}
use Rattle.escrow_laws.specs.Amounts.{Amounts, IsNumeric}
use Rattle.escrow_laws.specs.Safe.{Part, done_in_parts, AreOthers}
use Rattle.escrow_laws.specs.Laws.{FirmIsSafe}
use Rattle.escrow_laws.proofs.Runs.{run-step}
use Rattle.object_trait.specs.Object.{Object, IsCovered}
use Rattle.serial_order.specs.Operations.{is_among, is_by, ops, of, serial}
use Rattle.serial_order.specs.View.{own_at}
use Rattle.dynamic_atomicity.specs.Dynamic.{Dated, undated, AreOnce, comes_first, ComesAfterCommitted, KeepsDated}
use Rattle.serial_order.specs.declared.entry.Entry.{Entry}
use Rattle.serial_order.proofs.Facts.{IsLegalAt}
use Rattle.serial_order.proofs.Escrow.{EscrowFacts, covers_escrow}
use Rattle.serial_order.proofs.Lists.{ops-append, serial-snoc, serial-apart, of-pending}
use Rattle.type_table.proofs.Legal.{legal-front, legal-after}
use Rattle.serial_order.proofs.Pairs.{each-front, each-rest}
use Rattle.serial_order.proofs.Legal.{run-append}
use Rattle.dynamic_atomicity.proofs.Before.{first-before, among-append, among-filter, once-front, once-apart, once-append, once-filter, rest_of, rest-outside, rest-without, split_at}
use Rattle.dynamic_atomicity.proofs.Grown.{CameBy, Came, Grown, start, grows, plain-append}
use Rattle.dynamic_atomicity.proofs.AnyOrder.{kept-front, serial-append, serial-nothing}

-- ---- how far operations move a number, all together

abbrev total : (ℕ → ℕ) → List Entry → ℕ
total f [] = 0
total f (e ∷ V) = f e.op + total f V

total-append : (f : ℕ → ℕ) (V W : List Entry) → total f (V ++ W) ≡ total f V + total f W
total-append f [] W = omega arith
total-append f (e ∷ V) W = let rest = total-append f V W in omega (arith, rest)

-- a run moves its state by fixed amounts
run-total : (T : Table) (a : Amounts) → IsNumeric T a → (s e : ℕ) (V : List Entry) → run T (Some s) (ops V) ≡ Some e → e + total a.takes V ≡ s + total a.gives V
run-total T a numeric s e [] is =
    let same : s ≡ e = cc in
    omega (arith, same)
run-total T a numeric s e (b ∷ V) is =
    let step = run-step T s b.op e (ops V) is in
    let rest = run-total T a numeric step.0 e V step.2 in
    let by = numeric.moves s b.op step.0 step.1 in
    omega (arith, rest, by)

-- of those that pass one of two tests, and none both
total-either : (f : ℕ → ℕ) (p q : Entry → Bool) → ((e : Entry) → p e ≡ true → q e ≡ false) → (V : List Entry) → total f (filter p V) + total f (filter q V) ≡ total f (filter (λ e. p e || q e) V)
total-either f p q apart [] = refl
total-either f p q apart (e ∷ V) =
    let rest = total-either f p q apart V in
    elim (cases_Bool (p e)) [
      | inl first ↦ simp (first, apart e first) (omega (arith, rest))
      | inr other ↦ elim (cases_Bool (q e)) [
        | inl second ↦ simp (other, second) (omega (arith, rest))
        | inr neither ↦ simp (other, neither) rest
      ]
    ]

-- of transactions, each once: that of all their operations
total-serial : (f : ℕ → ℕ) (ts : List ℕ) (V : List Entry) → AreOnce ts → total f (serial ts V) ≡ total f (filter (λ e. is_among ts e.by) V)
total-serial f [] V once = ap (total f) (sym (none V))
  where
    none : (W : List Entry) → filter (λ e. false) W ≡ []
    none [] = refl
    none (e ∷ W) = none W
total-serial f (t ∷ ts) V once =
    let own : of t V ≡ filter (λ e. t == e.by) V = filter_agree (is_by t) (λ e. t == e.by) (λ e. eqb-sym e.by t) V in
    let both = total-either f (λ e. t == e.by) (λ e. is_among ts e.by) apart V in
    total-append f (of t V) (serial ts V) ∙ ap (λ n. total f (of t V) + n) (total-serial f ts V once.1) ∙ ap (λ W. total f W + total f (filter (λ e. is_among ts e.by) V)) own ∙ both
  where
    apart : (e : Entry) → (t == e.by) ≡ true → is_among ts e.by ≡ false
    apart e is = rw (eqb-true t e.by is) at once.0

-- two orders of the same transactions
total-same : (f : ℕ → ℕ) (ts us : List ℕ) (V : List Entry) → AreOnce ts → AreOnce us → ((t : ℕ) → is_among ts t ≡ is_among us t) → total f (serial ts V) ≡ total f (serial us V)
total-same f ts us V ts_once us_once same =
    total-serial f ts V ts_once ∙ ap (total f) (filter_agree (λ e. is_among ts e.by) (λ e. is_among us e.by) (λ e. same e.by) V) ∙ sym (total-serial f us V us_once)

-- end at the same number, where both are legal
pub same_number : LegalEnds → (T : Table) (a : Amounts) → IsNumeric T a → (s : ℕ) (ts us : List ℕ) (V : List Entry) → AreOnce ts → AreOnce us → ((t : ℕ) → is_among ts t ≡ is_among us t)
    → IsLegal T (Some s) (ops (serial ts V)) → IsLegal T (Some s) (ops (serial us V)) → run T (Some s) (ops (serial ts V)) ≡ run T (Some s) (ops (serial us V))
same_number ends T a numeric s ts us V ts_once us_once same first second =
    let one = ends T (Some s) (ops (serial ts V)) first in
    let two = ends T (Some s) (ops (serial us V)) second in
    let one_moved = run-total T a numeric s one.0 (serial ts V) one.1 in
    let two_moved = run-total T a numeric s two.0 (serial us V) two.1 in
    let given = total-same a.gives ts us V ts_once us_once same in
    let taken = total-same a.takes ts us V ts_once us_once same in
    let equal : one.0 ≡ two.0 = omega (arith, one_moved, two_moved, given, taken) in
    one.1 ∙ ap Some equal ∙ sym two.1

-- ---- what was done, as what may happen before a commit

-- all that each of these did
abbrev parts_of : (ℕ → List ℕ) → List ℕ → List Part
parts_of own [] = []
parts_of own (u ∷ R) = (record { by = u; count = length (own u) }) ∷ parts_of own R

done-serial : (C : List ℕ) (W : List Entry) (R : List ℕ) → ((u : ℕ) → is_among R u ≡ true → is_among C u ≡ false) → done_in_parts (own_at C W) (parts_of (own_at C W) R) ≡ ops (serial R W)
done-serial C W [] apart = refl
done-serial C W (u ∷ R) apart =
    let mine : own_at C W u ≡ ops (of u W) = ap ops (of-pending C u W (apart u here)) in
    rw (take-length (own_at C W u), mine, done-serial C W R (λ v inside. apart v (more v inside))) (sym (ops-append (of u W) (serial R W)))
  where
    here : is_among (u ∷ R) u ≡ true
    here = let same : (u == u) ≡ true = eq-eqb u u refl in simp same

    more : (v : ℕ) → is_among R v ≡ true → is_among (u ∷ R) v ≡ true
    more v inside = elim (cases_Bool (u == v)) [ inl is ↦ simp is | inr isnt ↦ simp isnt inside ]

-- they are others than t, and no two of one transaction
parts-others : (own : ℕ → List ℕ) (t : ℕ) (R : List ℕ) → AreOnce R → is_among R t ≡ false → AreOthers t (parts_of own R)
parts-others own t [] once outside = tt
parts-others own t (u ∷ R) once outside =
    let parts = or_parts (u == t) (is_among R t) outside in
    (parts.0, apart R once.0, parts-others own t R once.1 parts.1)
  where
    apart : (Q : List ℕ) → is_among Q u ≡ false → AllByRecursion (λ (q : Part). (q.by == u) ≡ false) (parts_of own Q)
    apart [] away = tt
    apart (v ∷ Q) away = let both = or_parts (v == u) (is_among Q u) away in (both.0, apart Q both.1)

-- ---- one operation

-- those that had committed and then the rest are the same, each once
past_same : (C P : List ℕ) → ((t : ℕ) → is_among C t ≡ true → is_among P t ≡ true) → (t : ℕ) → is_among (C ++ rest_of C P) t ≡ is_among P t
past_same C P within t = among-append C (rest_of C P) t ∙ rw (among-filter (λ v. not (is_among C v)) P t) (decided (is_among C t) (is_among P t) (within t))
  where
    decided : (c p : Bool) → (c ≡ true → p ≡ true) → (c || (not c && p)) ≡ p
    decided true true leads = refl
    decided true false leads = absurd (false≢true (leads refl))
    decided false p leads = refl

past_once : (C P : List ℕ) → AreOnce C → AreOnce P → AreOnce (C ++ rest_of C P)
past_once C P C_once P_once = once-append C (rest_of C P) C_once (once-filter (λ t. not (is_among C t)) P P_once) (λ t inside. (rest-outside C P t inside).0)

module _ (along : RunsAlong) (ends : LegalEnds) (safe : FirmIsSafe) (o : Object) (covered : IsCovered o) (kind : o.kind ≡ Escrow) where
  abbrev begin : Option ℕ
  begin = Some o.table.initial

  -- ---- where C committed, and W is what they and the open ones did

  module _ (C : List ℕ) (W : List Entry) (once : AreOnce C) (facts : EscrowFacts o C W) where
    -- what an open transaction did is legal after those that committed and any others, each of them once
    behind_past : (P : List ℕ) (v : ℕ) → AreOnce P → is_among P v ≡ false → is_among C v ≡ false → IsLegalAt o (ops (serial (C ++ rest_of C P) W) ++ ops (of v W))
    behind_past P v P_once outside open_now =
        let R = rest_of C P in
        let own = own_at C W in
        let numbers = safe o.table o.amounts facts.base own (covers_escrow o covered kind) facts.firm v (parts_of own R) (parts-others own v R (once-filter (λ t. not (is_among C t)) P P_once) (rest-without C P v outside)) in
        let mine : own v ≡ ops (of v W) = ap ops (of-pending C v W open_now) in
        let done : IsLegal o.table (Some facts.base) (ops (serial R W) ++ ops (of v W)) = rw (done-serial C W R (λ u inside. (rest-outside C P u inside).0), mine) at numbers in
        let whole : ops (serial (C ++ R) W) ≡ ops (serial C W) ++ ops (serial R W) = ap ops (serial-append C R W) ∙ ops-append (serial C W) (serial R W) in
        rw (whole, append_assoc (ops (serial C W)) (ops (serial R W)) (ops (of v W)))
        (legal-after along o.table begin (ops (serial C W)) (ops (serial R W) ++ ops (of v W)) facts.base facts.reached done)

    -- so it is after any legal order with those that committed
    one_behind : (P : List ℕ) (v : ℕ) → AreOnce P → is_among P v ≡ false → ((t : ℕ) → is_among C t ≡ true → is_among P t ≡ true) → IsLegalAt o (ops (serial P W)) → IsLegalAt o (ops (serial (P ++ v ∷ []) W))
    one_behind P v P_once outside within legal =
        let A = C ++ rest_of C P in
        let behind = behind_past P v P_once outside (open_still (is_among C v) refl) in
        let past_legal : IsLegalAt o (ops (serial A W)) = legal-front o.table begin (ops (serial A W)) (ops (of v W)) behind in
        let same = same_number ends o.table o.amounts (covers_escrow o covered kind) o.table.initial A P W (past_once C P once P_once) P_once (past_same C P within) past_legal legal in
        let here : IsLegal o.table (run o.table begin (ops (serial A W))) (ops (of v W)) = rw (along o.table begin (ops (serial A W)) (ops (of v W))) at behind in
        rw (serial-snoc P v W, run-append along o.table begin (serial P W) (of v W), ← same) here
      where
        open_still : (b : Bool) → is_among C v ≡ b → b ≡ false
        open_still true is = absurd (true≢false (sym (within v is) ∙ outside))
        open_still false is = refl

    -- and each that comes after
    all_behind : (P Q : List ℕ) → AreOnce (P ++ Q) → ((t : ℕ) → is_among C t ≡ true → is_among P t ≡ true) → IsLegalAt o (ops (serial P W)) → IsLegalAt o (ops (serial (P ++ Q) W))
    all_behind P [] P_once within legal = rw (append-nil P) legal
    all_behind P (v ∷ Q) P_once within legal =
        let longer : (P ++ v ∷ []) ++ Q ≡ P ++ v ∷ Q = append_assoc P (v ∷ []) Q in
        let long_once : AreOnce ((P ++ v ∷ []) ++ Q) = rw longer P_once in
        let same : (v == v) ≡ true = eq-eqb v v refl in
        let inside : is_among (v ∷ Q) v ≡ true = simp same in
        let more = one_behind P v (once-front P (v ∷ Q) P_once) (once-apart P (v ∷ Q) v P_once inside) within legal in
        rw longer at (all_behind (P ++ v ∷ []) Q long_once (λ t past. in_front t (within t past)) more)
      where
        in_front : (t : ℕ) → is_among P t ≡ true → is_among (P ++ v ∷ []) t ≡ true
        in_front t is = among-append P (v ∷ []) t ∙ simp is

  -- ---- each order

  abbrev Claim : List Dated → Type 0
  Claim D = (ts : List ℕ) → AreOnce ts → KeepsDated ts D → IsLegalAt o (ops (serial ts (undated D)))

  claim_more : (D : List Dated) (b : Dated) → Came o D b → Claim D → Claim (D ++ b ∷ [])
  claim_more D b came claim ts once kept =
      let V = undated D in
      let u = b.entry.by in
      let facts : EscrowFacts o b.after (V ++ b.entry ∷ []) = subst (λ (way : Kind). CameBy way o D b) kind came.known in
      let before : KeepsDated ts D = each-front (ComesAfterCommitted ts) D (b ∷ []) kept in
      let here : IsLegalAt o (ops (serial ts (V ++ b.entry ∷ []))) = elim (cases_Bool (is_among ts u)) [
        | inl among ↦
            let s = split_at ts u among in
            let first = (each-rest (ComesAfterCommitted ts) D (b ∷ []) kept).0 among in
            let split_once : AreOnce (s.front ++ u ∷ s.rest) = subst AreOnce s.is once in
            let front_kept : KeepsDated s.front D = kept-front s.front (u ∷ s.rest) D (subst (λ v. KeepsDated v D) s.is before) in
            let front_legal : IsLegalAt o (ops (serial s.front (V ++ b.entry ∷ []))) =
            rw (serial-apart s.front V b.entry s.apart) (claim s.front (once-front s.front (u ∷ s.rest) split_once) front_kept) in
            let within : (t : ℕ) → is_among b.after t ≡ true → is_among s.front t ≡ true =
            λ t inside. first-before s.front s.rest t u s.apart (subst (λ v. comes_first v t u ≡ true) s.is (first t inside)) in
            subst (λ v. IsLegalAt o (ops (serial v (V ++ b.entry ∷ [])))) (sym s.is)
            (all_behind b.after (V ++ b.entry ∷ []) came.once facts s.front (u ∷ s.rest) split_once within front_legal)
        | inr outside ↦ rw (serial-apart ts V b.entry outside) (claim ts once before)
      ] in
      rw (plain-append D (b ∷ [])) here

  -- the claim of each list
  pub any_number : (D : List Dated) → Grown o D → Claim D
  any_number _ start ts once kept = rw (serial-nothing ts) refl
  any_number _ (grows {D} {b} g came) ts once kept = claim_more D b came (any_number D g) ts once kept
