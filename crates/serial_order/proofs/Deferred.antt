-- Deferred update: the serial order and what each open transaction sees are legal; and stay so.
use Rattle.std.proofs.Common.{◌≡◌, ℕ, true, false, ◌==◌, List, [], ◌∷◌, ◌++◌, take, drop, Contains, Option, Some, sym, ap, ◌∙◌, inl, inr}
use Rattle.std.proofs.lemmas.Bool.{cases_Bool, false≢true, eqb-true}
use Rattle.std.proofs.lemmas.List.{append_assoc, take-append-drop}
use Rattle.type_table.specs.Commute.{CommuteForward, Covers}
use Rattle.type_table.specs.Laws.{RunsAlong, EndsInside, LegalEnds}
use Rattle.type_table.specs.declared.table_kind.TableKind.TheVariants.{Intentions}
use Rattle.type_table.specs.declared.kind.Kind.TheVariants as way
use Rattle.type_table.specs.Lists.{ListsForward}
use Rattle.type_table.proofs.Elements.{eqb-sym}
use Rattle.type_table.proofs.Legal.{legal-front, legal-behind, legal-after, forward-turned}
use Rattle.object_trait.specs.Object.{Object, IsCovered}
use Rattle.object_trait.specs.Orders.{Pairs}
use Rattle.object_trait.specs.Strike.{keep_first}
use Rattle.object_trait.proofs.Lists.{pairs-weaker, pairs-push}
use Rattle.object_trait.proofs.Striking.{pairs-keep_first}
use Rattle.serial_order.specs.Operations.{is_among, is_by, ops, of, serial}
use Rattle.serial_order.specs.declared.entry.Entry.{Entry}
use Rattle.serial_order.proofs.Strikes.{keep_first-others, keep_first-mine}
use Rattle.serial_order.proofs.Facts.{IsHeldFree, IsLegalAt, held_free-commit, DeferredFacts, DeferredOp, DeferredStrike, DeferredCommit}
use Rattle.serial_order.proofs.Lists.{is_one-apart, is_among-neither, ops-append, serial-snoc, serial-apart, of-apart, of-more, serial-strike}
use Rattle.serial_order.proofs.Pairs.{pairs-at}
use Rattle.serial_order.proofs.Chosen.{from_chosen}

-- ---- views

-- a view of one more operation
ops-more : (V W : List Entry) (e : Entry) → ops (V ++ (W ++ e ∷ [])) ≡ ops (V ++ W) ++ e.op ∷ []
ops-more V W e = ap ops (sym (append_assoc V W (e ∷ []))) ∙ ops-append (V ++ W) (e ∷ [])

-- a view of which the last operations are left out
ops-front : (V W : List Entry) (n : ℕ) → ops (V ++ W) ≡ ops (V ++ take n W) ++ ops (drop n W)
ops-front V W n = ap (λ U. ops (V ++ U)) (sym (take-append-drop n W)) ∙ ap ops (sym (append_assoc V (take n W) (drop n W))) ∙ ops-append (V ++ take n W) (drop n W)

-- ---- an operation

-- what the transaction of the operation sees is legal after it
own_view : (o : Object) (C : List ℕ) (V : List Entry) (e : Entry) (t : ℕ) → is_among C e.by ≡ false → (e.by == t) ≡ true →
    IsLegalAt o (ops (serial C V ++ of e.by V) ++ e.op ∷ []) → IsLegalAt o (ops (serial C (V ++ e ∷ []) ++ of t (V ++ e ∷ [])))
own_view o C V e t uncommitted mine legal =
    let here : ops (serial C V ++ of e.by V) ++ e.op ∷ [] ≡ ops (serial C (V ++ e ∷ []) ++ of t (V ++ e ∷ [])) =
    ap (λ x. ops (serial C V ++ of x V) ++ e.op ∷ []) (eqb-true e.by t mine) ∙ sym (ops-more (serial C V) (of t V) e)
    ∙ ap (λ W. ops (serial C V ++ W)) (sym (of-more t V e mine)) ∙ ap (λ W. ops (W ++ of t (V ++ e ∷ []))) (sym (serial-apart C V e uncommitted)) in
    rw here at legal

-- what is so of deferred update stays so by an operation
pub deferred_op : DeferredOp
deferred_op = λ o C V e covered kind fresh legal facts. record {
  locked = pairs-push (IsHeldFree o C) V e facts.locked fresh.free;
  serial_legal = rw (serial-apart C V e fresh.uncommitted) facts.serial_legal;
  views_legal = λ t pending. elim (cases_Bool (e.by == t)) [
    | inl mine ↦ own_view o C V e t fresh.uncommitted mine legal
    | inr apart ↦ rw (serial-apart C V e fresh.uncommitted, of-apart t V e apart) (facts.views_legal t pending)
  ];
}

-- ---- a strike

-- what the transaction that is struck sees is a front of what it saw, and legal
struck_view : (o : Object) (C : List ℕ) (V : List Entry) (t n : ℕ) → is_among C t ≡ false →
    IsLegalAt o (ops (serial C V ++ of t V)) → IsLegalAt o (ops (serial C (keep_first (is_by t) n V) ++ of t (keep_first (is_by t) n V)))
struck_view o C V t n uncommitted legal =
    rw (serial-strike C t n V uncommitted, keep_first-mine (is_by t) n V)
    (legal-front o.table (Some o.table.initial) (ops (serial C V ++ take n (of t V))) (ops (drop n (of t V))) (rw (ops-front (serial C V) (of t V) n) at legal))

-- what another sees is what it saw
other_view : (o : Object) (C : List ℕ) (V : List Entry) (t u n : ℕ) → is_among C t ≡ false → (t == u) ≡ false →
    IsLegalAt o (ops (serial C V ++ of u V)) → IsLegalAt o (ops (serial C (keep_first (is_by t) n V) ++ of u (keep_first (is_by t) n V)))
other_view o C V t u n uncommitted apart legal =
    rw (serial-strike C t n V uncommitted, keep_first-others (is_by u) (is_by t) n V (λ e mine. is_one-apart e.by t u apart mine)) legal

-- by a strike
pub deferred_strike : DeferredStrike
deferred_strike = λ o C V t n covered kind uncommitted facts. record {
  locked = pairs-keep_first (IsHeldFree o C) (is_by t) n V facts.locked;
  serial_legal = rw (serial-strike C t n V uncommitted) facts.serial_legal;
  views_legal = λ u pending. elim (cases_Bool (t == u)) [
    | inl same ↦ rw (sym (eqb-true t u same)) (struck_view o C V t n uncommitted (facts.views_legal t uncommitted))
    | inr apart ↦ other_view o C V t u n uncommitted apart (facts.views_legal u pending)
  ];
}

-- ---- a commit

-- an object that is covered for its kind is covered for deferred update, where that is its kind
covers_deferred : (o : Object) → IsCovered o → o.kind ≡ way.Intentions → Covers Intentions o.table o.set o.conflicts
covers_deferred o covered kind = rw kind at covered

-- operations that don't conflict commute forward
free_commute : (o : Object) → IsCovered o → o.kind ≡ way.Intentions → (p q : ℕ) → o.conflicts p q ≡ false → CommuteForward o.table o.set p q
free_commute o covered kind p q free = (covers_deferred o covered kind).commute p q free

module _ (o : Object) (C : List ℕ) (V : List Entry) (covered : IsCovered o) (kind : o.kind ≡ way.Intentions) (t u : ℕ)
    (t_pending : is_among C t ≡ false) (u_pending : is_among C u ≡ false) (apart : (t == u) ≡ false) where
  -- an operation of t commutes forward with one of u
  abbrev Commuting : Entry → Entry → Type 0
  Commuting a b = is_by t a ≡ true → is_by u b ≡ true → CommuteForward o.table o.set a.op b.op

  -- an operation commutes with one that a pending transaction, another, did before it
  held_commute : (a b : Entry) (x y : ℕ) → IsHeldFree o C a b → is_by x a ≡ true → is_by y b ≡ true →
      is_among C x ≡ false → (y == x) ≡ false → CommuteForward o.table o.set b.op a.op
  held_commute a b x y h a_mine b_mine pending differ =
      free_commute o covered kind b.op a.op (h (rw (eqb-true a.by x a_mine) pending) (rw (eqb-true a.by x a_mine, eqb-true b.by y b_mine) differ))

  -- whichever of the two is first
  both_ways : (a b : Entry) → IsHeldFree o C a b → Commuting a b × Commuting b a
  both_ways a b h = (
    λ a_mine b_mine. forward-turned o.table o.set b.op a.op (held_commute a b t u h a_mine b_mine t_pending (eqb-sym u t ∙ apart)),
    λ b_mine a_mine. held_commute a b u t h a_mine b_mine u_pending apart,
  )

  -- no operation is of both
  never_both : (e : Entry) → Commuting e e
  never_both e = λ mine its. absurd (false≢true (sym (is_one-apart e.by t u apart mine) ∙ its))

  -- each operation of t commutes forward with each of u
  lists_commute : Pairs (IsHeldFree o C) V → (p q : ℕ) → Contains (ops (of t V)) p → Contains (ops (of u V)) q → CommuteForward o.table o.set p q
  lists_commute locked p q p_in q_in =
      let a = from_chosen (λ (e : Entry). e.op) (is_by t) V p p_in in
      let b = from_chosen (λ (e : Entry). e.op) (is_by u) V q q_in in
      let pairs = pairs-weaker {Q = λ c d. Commuting c d × Commuting d c} both_ways V locked in
      rw (a.is, b.is) at (pairs-at Commuting V a.element b.element never_both pairs a.inside b.inside a.passes b.passes)

  -- what u sees after the commit of t is legal
  view_after : RunsAlong → EndsInside → LegalEnds → ListsForward → DeferredFacts o C V → IsLegalAt o (ops (serial (C ++ t ∷ []) V ++ of u V))
  view_after along inside ends forward facts =
      let T = o.table in
      let begin : Option ℕ = Some o.table.initial in
      let before = ops (serial C V) in
      let reached = ends T begin before facts.serial_legal in
      let member = inside T o.set o.table.initial reached.0 before (covers_deferred o covered kind).closed (covers_deferred o covered kind).begins_inside reached.1 in
      let t_legal = legal-behind along T begin before (ops (of t V)) reached.0 reached.1 (rw (ops-append (serial C V) (of t V)) at (facts.views_legal t t_pending)) in
      let u_legal = legal-behind along T begin before (ops (of u V)) reached.0 reached.1 (rw (ops-append (serial C V) (of u V)) at (facts.views_legal u u_pending)) in
      let joined = forward T o.set reached.0 (ops (of t V)) (ops (of u V)) (covers_deferred o covered kind).closed member (lists_commute facts.locked) t_legal u_legal in
      let whole : ops (serial (C ++ t ∷ []) V ++ of u V) ≡ before ++ (ops (of t V) ++ ops (of u V)) =
      ap (λ W. ops (W ++ of u V)) (serial-snoc C t V) ∙ ap ops (append_assoc (serial C V) (of t V) (of u V))
      ∙ ops-append (serial C V) (of t V ++ of u V) ∙ ap (λ w. before ++ w) (ops-append (of t V) (of u V)) in
      rw whole (legal-after along T begin before (ops (of t V) ++ ops (of u V)) reached.0 reached.1 joined.0)

-- and by a commit
pub deferred_commit : RunsAlong → EndsInside → LegalEnds → ListsForward → DeferredCommit
deferred_commit along inside ends forward = λ o C V t covered kind uncommitted facts. record {
  locked = pairs-weaker (held_free-commit o C t) V facts.locked;
  serial_legal = rw (serial-snoc C t V) (facts.views_legal t uncommitted);
  views_legal = λ u pending.
      let neither = is_among-neither C t u pending in
      view_after o C V covered kind t u uncommitted neither.0 neither.1 along inside ends forward facts;
}
