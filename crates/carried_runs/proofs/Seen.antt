-- What the next epoch may do, the old one may do by its names.
use Rattle.std.proofs.Common.{◌≡◌, ℕ, zero, suc, ◌+◌, ◌-◌, ◌<◌, Bool, true, false, cond, not, ◌&&◌, ◌==◌, nat_lt, List, [], ◌∷◌, ◌++◌, map, filter, length, Some, slice_get, refl, sym, ap, subst, ◌∙◌, inl, inr, append_assoc, arith}
use Rattle.std.specs.Prelude.{unwrap_or}
use Rattle.std.specs.List.{AllByRecursion}
use Rattle.std.proofs.lemmas.Bool.{cases_Bool, cases_lt, eqb-true, eq-eqb, false≢true, not-true, or_parts}
use Rattle.std.proofs.lemmas.List.{map-append}
use Rattle.std.proofs.lemmas.List.Folds.{list_any-append}
use Rattle.type_table.specs.Run.{run, IsLegal}
use Rattle.type_table.specs.Laws.{RunsAlong}
use Rattle.type_table.specs.declared.kind.Kind.{Kind}
use Rattle.type_table.specs.declared.kind.Kind.TheVariants.{Undo, Intentions, Escrow}
use Rattle.type_table.proofs.Elements.{each-weaker, each-map, each-passes, filter-turned, filter-none, eqb-sym}
use Rattle.escrow_laws.specs.Laws.{FirmIsSafe, SafeIsFirm, FirmKeepsNobody}
use Rattle.escrow_laws.specs.Firm.{IsFirm, with_op}
use Rattle.escrow_laws.specs.Safe.{done_in_parts, IsSafe}
use Rattle.object_trait.specs.Object.{Object, IsCovered, IsCoveredStrongly}
use Rattle.object_trait.specs.Laws.{SortsEqui}
use Rattle.serial_order.specs.Operations.{is_among, is_by, at_object, ops, of, serial, pending}
use Rattle.serial_order.specs.History.{Summary, is_open}
use Rattle.serial_order.specs.View.{view, is_legal_after, conflicts_with, stops_at, own_at, number_at, above_at}
use Rattle.serial_order.specs.Machine.{MayDo}
use Rattle.serial_order.specs.Laws.{may_pass}
use Rattle.serial_order.specs.declared.entry.Entry.{Entry}
use Rattle.serial_order.proofs.Pairs.{each-all}
use Rattle.serial_order.proofs.Legal.{run-append}
use Rattle.serial_order.proofs.Lists.{ops-append, of-pending, pending-more, is_among-apart, serial-apart}
use Rattle.serial_order.proofs.Facts.{IsLegalAt}
use Rattle.serial_order.proofs.Escrow.{EscrowFacts, covers_escrow, own-more}
use Rattle.serial_order.proofs.Undo.{covers_undo}
use Rattle.committed_states.specs.Committed.{of_these, IsCommittedBy}
use Rattle.serial_order.proofs.Kept.{passes_both_ways}
use Rattle.committed_states.proofs.Orders.{serial-of_these, serial-like, serial-two}
use Rattle.carried_runs.specs.Carried.{number_in}
use Rattle.carried_runs.specs.OldNumbers.{owner_of}
use Rattle.carried_runs.proofs.Again.{BeginsAt}
use Rattle.carried_runs.proofs.Renumbering.{AreApart, AreLess, owner-number}
use Rattle.carried_runs.proofs.Naming.{owner-more, AreNames, names-same, by_name, of-named, ops-named, at-named, IsLike, safe-like}
use Rattle.carried_runs.proofs.Beside.{AreBeside, g-names, g-out, beside-open, beside-committed}

-- ---- lists

-- what holds of those that pass and of those that fail holds of all
each-two : {E : Type 0} (Q : E → Type 0) (test : E → Bool) (V : List E) → AllByRecursion Q (filter test V) → AllByRecursion Q (filter (λ e. not (test e)) V) → AllByRecursion Q V
each-two Q test [] p q = tt
each-two Q test (e ∷ V) p q =
    elim (cases_Bool (test e)) [
      | inl passes ↦ let here = rw passes at p in (here.0, each-two Q test V here.1 (rw passes at q))
      | inr fails ↦ let here = rw fails at q in (here.0, each-two Q test V (rw fails at p) here.1)
    ]

-- one that committed has nothing pending
of-committed : (C : List ℕ) (t : ℕ) (V : List Entry) → is_among C t ≡ true → of t (pending C V) ≡ []
of-committed C t V inside =
    filter-none (is_by t) (pending C V)
    (each-passes (λ e. is_by t e ≡ false) (λ e. not (is_among C e.by)) V (each-all (λ e out. is_among-apart-turned e.by (not-true (is_among C e.by) out)) V))
  where
    is_among-apart-turned : (u : ℕ) → is_among C u ≡ false → (u == t) ≡ false
    is_among-apart-turned u out = eqb-sym u t ∙ is_among-apart C u t out inside

-- ---- names, and back

module _ (P : List ℕ) (n : ℕ) (apart : AreApart P) (less : AreLess n P) where
  abbrev h : ℕ → ℕ
  h u = cond (is_among P u) (number_in P u) (length P + (u - n))

  owner-inside : (Q : List ℕ) (i : ℕ) → i < length Q → is_among Q (owner_of Q n i) ≡ true
  owner-inside [] i low = absurd (omega (arith, low))
  owner-inside (u ∷ Q) zero low = rw (eq-eqb u u refl) refl
  owner-inside (u ∷ Q) (suc i) low =
      let rest = owner-inside Q i (omega (arith, low)) in
      elim (cases_Bool (u == owner_of Q n i)) [
        | inl is ↦ rw is refl
        | inr other ↦ rw other rest
      ]

  -- a name leads back
  pub back : (i : ℕ) → owner_of P n (h (owner_of P n i)) ≡ owner_of P n i
  back i =
      elim (cases_Bool (is_among P (owner_of P n i))) [
        | inl inside ↦ rw inside (owner-number P n (owner_of P n i) apart less inside)
        | inr out ↦ elim (cases_lt i (length P)) [
          | inl low ↦ absurd (false≢true (sym out ∙ owner-inside P i low))
          | inr high ↦
              let split : i ≡ length P + (i - length P) = omega (arith, high) in
              let is : owner_of P n i ≡ n + (i - length P) = ap (owner_of P n) split ∙ owner-more P n (i - length P) in
              let again : length P + (owner_of P n i - n) ≡ i = omega (arith, is, high) in
              rw out (ap (owner_of P n) again)
        ]
      ]

-- ---- at an object

module _ (along : RunsAlong) (objects : List Object) (P : List ℕ) (n : ℕ) (C A : List ℕ) (first : List Entry) (old new : Summary)
    (apart : AreApart P) (less : AreLess n P) (c_less : (t : ℕ) → is_among C t ≡ true → t < n) (a_less : (t : ℕ) → is_among A t ≡ true → t < n)
    (c_out : (t : ℕ) → is_among P t ≡ true → is_among C t ≡ false) (a_out : (t : ℕ) → is_among P t ≡ true → is_among A t ≡ false)
    (known : AreBeside objects P n C A (of_these C first) old new)
    (x : ℕ) (o now : Object) (s : ℕ) (there : slice_get objects x ≡ Some o) (begins : BeginsAt o now s) (j k : ℕ) (open_now : is_open new j ≡ true) where
  abbrev g : ℕ → ℕ
  g = owner_of P n

  abbrev V : List Entry
  V = at_object x old.survives

  abbrev W : List Entry
  W = at_object x new.survives

  names : AreNames g
  names = g-names objects P n C A (of_these C first) old new apart less c_less a_less c_out a_out known

  out : (i : ℕ) → is_among C (g i) ≡ false
  out i = g-out objects P n C A (of_these C first) old new apart less c_less a_less c_out a_out known i

  -- the first epoch's committed ones
  fixed-at : of_these C V ≡ of_these C (at_object x first)
  fixed-at =
      filter-turned (λ (e : Entry). is_among C e.by) (λ e. e.at == x) old.survives ∙ ap (at_object x) known.fixed
      ∙ sym (filter-turned (λ (e : Entry). is_among C e.by) (λ e. e.at == x) first)

  -- and the others
  rest-at : pending C V ≡ map (by_name g) W
  rest-at =
      filter-turned (λ (e : Entry). not (is_among C e.by)) (λ e. e.at == x) old.survives ∙ ap (at_object x) known.rest ∙ at-named g x new.survives

  own-at : (i : ℕ) → ops (of (g i) V) ≡ ops (of i W)
  own-at i = ap ops (sym (of-pending C (g i) V (out i)) ∙ ap (of (g i)) rest-at ∙ of-named g names i W) ∙ ops-named g (of i W)

  -- ---- legal

  -- update in place
  undo-legal : SortsEqui Entry → o.kind ≡ Undo → IsCovered o → IsCoveredStrongly o → IsLegalAt o (ops V) → IsCommittedBy Undo o s C (at_object x first) → IsLegal o.table (Some s) (ops W ++ k ∷ []) → IsLegalAt o (ops V ++ k ∷ [])
  undo-legal equi is covered strong legal left next =
      let covers = covers_undo o covered is in
      let T = o.table in
      let ends = equi T o.set (λ e. e.op) (may_pass o) T.initial V (of_these C V ++ pending C V) covers.closed covers.begins_inside (passes_both_ways o strong is) (known.sorted x o there is) legal in
      let same : run T (Some T.initial) (ops (of_these C V ++ pending C V)) ≡ run T (Some s) (ops W) =
      run-append along T (Some T.initial) (of_these C V) (pending C V)
      ∙ ap (λ from. run T from (ops (pending C V))) (ap (λ U. run T (Some T.initial) (ops U)) fixed-at ∙ left)
      ∙ ap (run T (Some s)) (ap ops rest-at ∙ ops-named g W) in
      let after : IsLegal T (run T (Some s) (ops W)) (k ∷ []) = rw (along T (Some s) (ops W) (k ∷ [])) at next in
      rw (along T (Some T.initial) (ops V) (k ∷ [])) ((ends.1).1 (k ∷ []) (rw same after))

  -- the serial order: that of the first epoch, and then that of the next
  serial-is : ops (serial old.committed V) ≡ ops (serial C (at_object x first)) ++ ops (serial new.committed W)
  serial-is =
      ap (λ D. ops (serial D V)) known.committed ∙ serial-two C (map g new.committed) V
      ∙ ap (λ v. v ++ ops (serial (map g new.committed) V)) (ap ops (sym (serial-of_these C V) ∙ ap (serial C) fixed-at ∙ serial-of_these C (at_object x first)))
      ∙ ap (λ v. ops (serial C (at_object x first)) ++ v) (serial-like g new.committed V W (λ t _. own-at t))

  -- what is seen
  view-is : ops (serial old.committed V ++ of (g j) V) ≡ ops (serial C (at_object x first)) ++ ops (serial new.committed W ++ of j W)
  view-is =
      ops-append (serial old.committed V) (of (g j) V) ∙ ap (λ v. v ++ ops (of (g j) V)) serial-is ∙ ap (λ v. (ops (serial C (at_object x first)) ++ ops (serial new.committed W)) ++ v) (own-at j)
      ∙ append_assoc (ops (serial C (at_object x first))) (ops (serial new.committed W)) (ops (of j W)) ∙ ap (λ v. ops (serial C (at_object x first)) ++ v) (sym (ops-append (serial new.committed W) (of j W)))

  own-legal : ((ks : List ℕ) → IsLegal o.table (Some s) ks → IsLegal o.table (run o.table (Some o.table.initial) (ops (serial C (at_object x first)))) ks)
      → IsLegal o.table (Some s) (ops (serial new.committed W ++ of j W) ++ k ∷ []) → IsLegalAt o (ops (serial old.committed V ++ of (g j) V) ++ k ∷ [])
  own-legal looks next =
      let T = o.table in
      rw (view-is, append_assoc (ops (serial C (at_object x first))) (ops (serial new.committed W ++ of j W)) (k ∷ []), along T (Some T.initial) (ops (serial C (at_object x first))) (ops (serial new.committed W ++ of j W) ++ k ∷ []))
      (looks (ops (serial new.committed W ++ of j W) ++ k ∷ []) next)

  -- ---- free

  -- nothing that is committed conflicts
  closed-free : AllByRecursion (λ e. conflicts_with o old x (g j) k e ≡ false) (of_these C V)
  closed-free = each-passes (λ e. conflicts_with o old x (g j) k e ≡ false) (λ e. is_among C e.by) V (each-all (λ e inside. one e inside) V)
    where
      ended : (e : Entry) → is_among C e.by ≡ true → is_among old.committed e.by ≡ true
      ended e inside = ap (λ D. is_among D e.by) known.committed ∙ list_any-append (λ u. u == e.by) C (map g new.committed) ∙ rw inside refl

      closed : (b c : Bool) → (b && false) && c ≡ false
      closed true c = refl
      closed false c = refl

      one : (e : Entry) → is_among C e.by ≡ true → conflicts_with o old x (g j) k e ≡ false
      one e inside = rw (ended e inside) (closed (nat_lt e.by old.begun) _)

  all-free : AllByRecursion (λ e. conflicts_with o old x (g j) k (by_name g e) ≡ false) W → AllByRecursion (λ e. conflicts_with o old x (g j) k e ≡ false) V
  all-free each =
      each-two (λ e. conflicts_with o old x (g j) k e ≡ false) (λ e. is_among C e.by) V closed-free
      (subst (AllByRecursion (λ e. conflicts_with o old x (g j) k e ≡ false)) (sym rest-at) (each-map (λ e. conflicts_with o old x (g j) k e ≡ false) (by_name g) W each))

  -- an operation of the next epoch that doesn't conflict there, where what stops is alike
  alike-free : (e : Entry) → (stops_at now.kind now new.committed W j k e ≡ false → stops_at o.kind o old.committed V (g j) k (by_name g e) ≡ false)
      → conflicts_with now new x j k e ≡ false → conflicts_with o old x (g j) k (by_name g e) ≡ false
  alike-free e stops free =
      rw (beside-open objects P n C A (of_these C first) old new apart less c_less a_less c_out a_out known e.by, names-same g names e.by j)
      (by (is_open new e.by) (not (e.by == j)) (stops_at now.kind now new.committed W j k e) (stops_at o.kind o old.committed V (g j) k (by_name g e)) stops free)
    where
      by : (a b c d : Bool) → (c ≡ false → d ≡ false) → (a && (b && c)) ≡ false → (a && (b && d)) ≡ false
      by true true c d stops free = stops free
      by true false c d stops free = refl
      by false b c d stops free = refl

  -- ---- escrow

  abbrev entry : Entry
  entry = record { by = j; at = x; op = k }

  abbrev entry_old : Entry
  entry_old = record { by = g j; at = x; op = k }

  rest-after : pending C (V ++ entry_old ∷ []) ≡ map (by_name g) (W ++ entry ∷ [])
  rest-after = pending-more C V entry_old (out j) ∙ ap (λ U. U ++ entry_old ∷ []) rest-at ∙ sym (map-append (by_name g) W (entry ∷ []))

  committed-alike : (i : ℕ) → is_among old.committed (g i) ≡ is_among new.committed i
  committed-alike i = beside-committed objects P n C A (of_these C first) old new apart less c_less a_less c_out a_out known i

  -- what each did, by its name
  own-alike : (i : ℕ) → own_at old.committed (V ++ entry_old ∷ []) (g i) ≡ own_at new.committed (W ++ entry ∷ []) i
  own-alike i =
      elim (cases_Bool (is_among new.committed i)) [
        | inl inside ↦
            ap ops (of-committed old.committed (g i) (V ++ entry_old ∷ []) (committed-alike i ∙ inside)) ∙ sym (ap ops (of-committed new.committed i (W ++ entry ∷ []) inside))
        | inr outside ↦
            ap ops (of-pending old.committed (g i) (V ++ entry_old ∷ []) (committed-alike i ∙ outside)
            ∙ sym (of-pending C (g i) (V ++ entry_old ∷ []) (out i)) ∙ ap (of (g i)) rest-after ∙ of-named g names i (W ++ entry ∷ []))
            ∙ ops-named g (of i (W ++ entry ∷ [])) ∙ sym (ap ops (of-pending new.committed i (W ++ entry ∷ []) outside))
      ]

  -- who has no name did nothing
  nameless : (u : ℕ) → (g (h P n apart less u) == u) ≡ false → own_at old.committed (V ++ entry_old ∷ []) u ≡ []
  nameless u isnt =
      elim (cases_Bool (is_among old.committed u)) [
        | inl inside ↦ ap ops (of-committed old.committed u (V ++ entry_old ∷ []) inside)
        | inr outside ↦
            let apart_c : is_among C u ≡ false = (or_parts (is_among C u) (is_among (map g new.committed) u)
            (sym (list_any-append (λ t. t == u) C (map g new.committed)) ∙ ap (λ D. is_among D u) (sym known.committed) ∙ outside)).0 in
            ap ops (of-pending old.committed u (V ++ entry_old ∷ []) outside
            ∙ sym (of-pending C u (V ++ entry_old ∷ []) apart_c) ∙ ap (of u) rest-after
            ∙ filter-none (is_by u) (map (by_name g) (W ++ entry ∷ []))
            (each-map (λ e. is_by u e ≡ false) (by_name g) (W ++ entry ∷ []) (each-all (λ e. differs e.by) (W ++ entry ∷ []))))
      ]
    where
      differs : (i : ℕ) → (g i == u) ≡ false
      differs i =
          elim (cases_Bool (g i == u)) [
            | inl same ↦
                let is : g i ≡ u = eqb-true (g i) u same in
                absurd (false≢true (sym isnt ∙ eq-eqb (g (h P n apart less u)) u (ap (λ v. g (h P n apart less v)) (sym is) ∙ back P n apart less i ∙ is)))
            | inr other ↦ other
          ]

  -- what each does, with the operation, is like what it does in the next epoch
  like : is_among new.committed j ≡ false → (u : ℕ) → IsLike g (h P n apart less) (own_at new.committed (W ++ entry ∷ [])) (with_op (own_at old.committed V) (g j) k) u
  like uncommitted u =
      let more = own-more old.committed V entry_old u (committed-alike j ∙ uncommitted) in
      elim (cases_Bool (g (h P n apart less u) == u)) [
        | inl is ↦
            let same : g (h P n apart less u) ≡ u = eqb-true (g (h P n apart less u)) u is in
            inr (more ∙ ap (own_at old.committed (V ++ entry_old ∷ [])) (sym same) ∙ own-alike (h P n apart less u), same)
        | inr isnt ↦ inl (more ∙ nameless u isnt)
      ]

  -- the number is the same
  number-is : is_among new.committed j ≡ false → IsCommittedBy Escrow o s C (at_object x first) → (facts : EscrowFacts now new.committed (W ++ entry ∷ [])) → number_at o old.committed V ≡ facts.base
  number-is uncommitted left facts =
      let T = o.table in
      let there_is : run T (Some s) (ops (serial new.committed W)) ≡ Some facts.base =
      rw (serial-apart new.committed W entry uncommitted, begins.runs (Some now.table.initial) (ops (serial new.committed W)), begins.initial) at facts.reached in
      ap (λ found. unwrap_or found 0)
      (ap (run T (Some T.initial)) serial-is ∙ along T (Some T.initial) (ops (serial C (at_object x first))) (ops (serial new.committed W))
      ∙ ap (λ from. run T from (ops (serial new.committed W))) left ∙ there_is)

  -- so it is firm, and nobody is kept from it
  nobody : FirmIsSafe → SafeIsFirm → FirmKeepsNobody → o.kind ≡ Escrow → IsCovered o → is_among new.committed j ≡ false → IsCommittedBy Escrow o s C (at_object x first)
      → EscrowFacts now new.committed (W ++ entry ∷ []) → (e : Entry) → stops_at Escrow o old.committed V (g j) k e ≡ false
  nobody safe is_firm keeps_nobody is covered uncommitted left facts e =
      let there_safe = safe now.table now.amounts facts.base (own_at new.committed (W ++ entry ∷ [])) (covers_escrow now begins.covered (begins.kind ∙ is)) facts.firm in
      let here_safe : IsSafe o.table facts.base (own_at new.committed (W ++ entry ∷ [])) = λ t ps others.
      rw (begins.runs (Some facts.base) (done_in_parts (own_at new.committed (W ++ entry ∷ [])) ps ++ own_at new.committed (W ++ entry ∷ []) t)) at (there_safe t ps others) in
      let own : ℕ → List ℕ = with_op (own_at old.committed V) (g j) k in
      let now_safe = safe-like g (h P n apart less) (own_at new.committed (W ++ entry ∷ [])) own (like uncommitted) o.table facts.base here_safe in
      let firm : IsFirm o.table o.amounts (number_at o old.committed V) own =
      subst (λ b. IsFirm o.table o.amounts b own) (sym (number-is uncommitted left facts)) (is_firm o.table o.amounts facts.base own (covers_escrow o covered is) now_safe) in
      keeps_nobody o.table o.amounts (number_at o old.committed V) (above_at (g j) (pending old.committed V)) own (g j) e.by firm

  -- ---- what may be done

  legal-there : (U : List Entry) → is_legal_after now U k ≡ true → IsLegal o.table (Some s) (ops U ++ k ∷ [])
  legal-there U legal = rw (begins.runs (Some now.table.initial) (ops U ++ k ∷ []), begins.initial) at legal

  free-there : ((e : Entry) → stops_at now.kind now new.committed W j k e ≡ false → stops_at o.kind o old.committed V (g j) k (by_name g e) ≡ false) → AllByRecursion (λ e. conflicts_with now new x j k e ≡ false) W →
      AllByRecursion (λ e. conflicts_with o old x (g j) k e ≡ false) V
  free-there stops free = all-free (each-weaker (λ e f. alike-free e (stops e) f) W free)

  may-undo : SortsEqui Entry → o.kind ≡ Undo → IsCovered o → IsCoveredStrongly o → IsLegalAt o (ops V) → IsCommittedBy Undo o s C (at_object x first) → MayDo (Some now) new x j k → MayDo (Some o) old x (g j) k
  may-undo equi is covered strong legal left may =
      let kind : now.kind ≡ Undo = begins.kind ∙ is in
      let seen : is_legal_after now W k ≡ true = subst (λ (m : Kind). is_legal_after now (view m new x j) k ≡ true) kind may.1 in (
        sym (begins.has k) ∙ may.0,
        subst (λ (m : Kind). is_legal_after o (view m old x (g j)) k ≡ true) (sym is) (undo-legal equi is covered strong legal left (legal-there W seen)),
        free-there (λ e stops. ap (λ (m : Kind). stops_at m o old.committed V (g j) k (by_name g e)) is ∙ sym (begins.conflicts k e.op) ∙ subst (λ (m : Kind). stops_at m now new.committed W j k e ≡ false) kind stops) may.2,
      )

  may-deferred : o.kind ≡ Intentions → IsCommittedBy Intentions o s C (at_object x first) → MayDo (Some now) new x j k → MayDo (Some o) old x (g j) k
  may-deferred is left may =
      let kind : now.kind ≡ Intentions = begins.kind ∙ is in
      let seen = subst (λ (m : Kind). is_legal_after now (view m new x j) k ≡ true) kind may.1 in (
        sym (begins.has k) ∙ may.0,
        subst (λ (m : Kind). is_legal_after o (view m old x (g j)) k ≡ true) (sym is) (own-legal left.0 (legal-there (serial new.committed W ++ of j W) seen)),
        free-there (λ e stops. ap (λ (m : Kind). stops_at m o old.committed V (g j) k (by_name g e)) is ∙ sym (begins.conflicts k e.op) ∙ subst (λ (m : Kind). stops_at m now new.committed W j k e ≡ false) kind stops) may.2,
      )

  may-escrow : FirmIsSafe → SafeIsFirm → FirmKeepsNobody → o.kind ≡ Escrow → IsCovered o → is_among new.committed j ≡ false → IsCommittedBy Escrow o s C (at_object x first)
      → EscrowFacts now new.committed (W ++ entry ∷ []) → MayDo (Some now) new x j k → MayDo (Some o) old x (g j) k
  may-escrow safe is_firm keeps_nobody is covered uncommitted left facts may =
      let kind : now.kind ≡ Escrow = begins.kind ∙ is in
      let seen = subst (λ (m : Kind). is_legal_after now (view m new x j) k ≡ true) kind may.1 in (
        sym (begins.has k) ∙ may.0,
        subst (λ (m : Kind). is_legal_after o (view m old x (g j)) k ≡ true) (sym is) (own-legal (λ ks legal. rw left legal) (legal-there (serial new.committed W ++ of j W) seen)),
        free-there (λ e stops. ap (λ (m : Kind). stops_at m o old.committed V (g j) k (by_name g e)) is ∙ nobody safe is_firm keeps_nobody is covered uncommitted left facts (by_name g e)) may.2,
      )

  pub may-old : SortsEqui Entry → FirmIsSafe → SafeIsFirm → FirmKeepsNobody → (kind : Kind) → o.kind ≡ kind → IsCovered o → IsCoveredStrongly o → is_among new.committed j ≡ false
      → (o.kind ≡ Undo → IsLegalAt o (ops V)) → IsCommittedBy kind o s C (at_object x first) → (now.kind ≡ Escrow → EscrowFacts now new.committed (W ++ entry ∷ []))
      → MayDo (Some now) new x j k → MayDo (Some o) old x (g j) k
  may-old equi safe is_firm keeps_nobody Undo is covered strong uncommitted legal left facts may = may-undo equi is covered strong (legal is) left may
  may-old equi safe is_firm keeps_nobody Intentions is covered strong uncommitted legal left facts may = may-deferred is left may
  may-old equi safe is_firm keeps_nobody Escrow is covered strong uncommitted legal left facts may = may-escrow safe is_firm keeps_nobody is covered uncommitted left (facts (begins.kind ∙ is)) may
