-- Escrow: the serial state, and that what each open transaction did is legal whatever the others do; and that both stay so.
use Rattle.std.proofs.Common.{◌≡◌, ℕ, ◌<◌, ◌≤◌, true, false, not, ◌==◌, List, [], ◌∷◌, ◌++◌, take, drop, filter, ◌⊎◌, Some, refl, sym, ap, ◌∙◌, inl, inr, arith, append-nil, append_assoc}
use Rattle.std.specs.Prelude.{unwrap_or}
use Rattle.std.specs.List.{AllByRecursion}
use Rattle.std.proofs.lemmas.Bool.{cases_Bool, eqb-true, eq-eqb, ne_eqb}
use Rattle.std.proofs.lemmas.List.{take-append-drop}
use Rattle.type_table.specs.Run.{run, IsLegal}
use Rattle.type_table.specs.Laws.{RunsAlong, LegalEnds}
use Rattle.type_table.proofs.Elements.{eqb-sym}
use Rattle.type_table.proofs.Legal.{legal-behind}
use Rattle.escrow_laws.specs.Amounts.{IsNumeric}
use Rattle.table_checker.specs.Laws.{CoversNumbers}
use Rattle.escrow_laws.specs.Firm.{IsFirm, with_op, keeps}
use Rattle.escrow_laws.specs.Laws.{FirmAfterApply, FirmAfterCommit, FirmAfterStrike, FirmIsLegal, NothingKeeps}
use Rattle.type_table.specs.declared.kind.Kind.TheVariants.{Escrow}
use Rattle.object_trait.specs.Object.{Object, IsCovered}
use Rattle.object_trait.specs.Strike.{keep_first}
use Rattle.serial_order.specs.Operations.{is_among, is_by, ops, of, serial, pending}
use Rattle.serial_order.specs.View.{above_at, own_at, number_at}
use Rattle.serial_order.specs.declared.entry.Entry.{Entry}
use Rattle.serial_order.proofs.Strikes.{keep_first-others, keep_first-mine}
use Rattle.serial_order.proofs.Facts.{IsLegalAt, IsAdmitted}
use Rattle.serial_order.proofs.Lists.{is_one-apart, ops-append, serial-snoc, pending-snoc, serial-apart, pending-more, of-apart, of-more, of-pending, serial-strike, pending-strike}
use Rattle.serial_order.proofs.Legal.{run-append}

-- escrow
pub record EscrowFacts (o : Object) (C : List ℕ) (V : List Entry) : Type 0 where
  pub base : ℕ
  pub reached : run o.table (Some o.table.initial) (ops (serial C V)) ≡ Some base
  pub firm : IsFirm o.table o.amounts base (own_at C V)

-- an object that is covered is numeric, where escrow is its way
pub covers_escrow : (o : Object) → IsCovered o → o.kind ≡ Escrow → IsNumeric o.table o.amounts
covers_escrow o covered kind = let numbers : CoversNumbers o.table o.set o.amounts = rw kind at covered in numbers.numeric

-- ---- what is known of them

-- what an open transaction sees is legal
pub escrow_view : RunsAlong → FirmIsLegal → (o : Object) (C : List ℕ) (V : List Entry) (t : ℕ) → is_among C t ≡ false → EscrowFacts o C V → IsLegalAt o (ops (serial C V ++ of t V))
escrow_view along firm_legal o C V t apart facts =
    let own : own_at C V t ≡ ops (of t V) = ap ops (of-pending C t V apart) in
    rw (run-append along o.table (Some o.table.initial) (serial C V) (of t V), facts.reached) (rw own at (firm_legal o.table o.amounts facts.base (own_at C V) t facts.firm))

-- the serial order is legal
pub escrow_serial : (o : Object) (C : List ℕ) (V : List Entry) → EscrowFacts o C V → IsLegalAt o (ops (serial C V))
escrow_serial o C V facts = rw facts.reached refl

-- ---- an operation

-- what each did, with one more operation
pub own-more : (C : List ℕ) (V : List Entry) (e : Entry) (u : ℕ) → is_among C e.by ≡ false → with_op (own_at C V) e.by e.op u ≡ own_at C (V ++ e ∷ []) u
own-more C V e u uncommitted =
    elim (cases_Bool (u == e.by)) [
      | inl same ↦
          let is : (e.by == u) ≡ true = eqb-sym e.by u ∙ same in
          rw (pending-more C V e uncommitted, of-more u (pending C V) e is, same, ops-append (of u (pending C V)) (e ∷ [])) refl
      | inr other ↦
          let isnt : (e.by == u) ≡ false = eqb-sym e.by u ∙ other in
          rw (pending-more C V e uncommitted, of-apart u (pending C V) e isnt, other) refl
    ]

-- a number that is above each transaction is above t
above-t : (t : ℕ) (V : List Entry) → t < above_at t V
above-t t [] = omega arith
above-t t (e ∷ V) = let rest = above-t t V in omega (arith, rest)

-- and whoever it is above did nothing
pub above-none : (t u : ℕ) (V : List Entry) → above_at t V ≤ u → of u V ≡ []
above-none t u [] far = refl
above-none t u (e ∷ V) far =
    elim (cases_Bool (e.by == u)) [
      | inl is ↦ let same = eqb-true e.by u is in absurd (omega (arith, same, far))
      | inr isnt ↦ rw isnt (above-none t u V (omega (arith, far)))
    ]

-- another transaction did nothing that isn't committed, or what holds of each pending operation of another holds of it
each-other : (P : ℕ → Type 0) (C : List ℕ) (t u : ℕ) (V : List Entry) → (t == u) ≡ false → AllByRecursion (λ e. is_among C e.by ≡ false → (t == e.by) ≡ false → P e.by) V
    → (of u (pending C V) ≡ []) ⊎ P u
each-other P C t u [] other each = inl refl
each-other P C t u (e ∷ V) other each =
    elim (cases_Bool (is_among C e.by)) [
      | inl past ↦ rw past (each-other P C t u V other each.1)
      | inr now ↦ elim (cases_Bool (e.by == u)) [
        | inl is ↦
            let same : e.by ≡ u = eqb-true e.by u is in
            inr (rw same at (each.0 now (rw same other)))
        | inr isnt ↦ rw (now, isnt) (each-other P C t u V other each.1)
      ]
    ]

module _ (along : RunsAlong) (apply : FirmAfterApply) (strikes : FirmAfterStrike) (nothing : NothingKeeps) (o : Object) (C : List ℕ) (V : List Entry) (e : Entry)
    (covered : IsCovered o) (kind : o.kind ≡ Escrow) (admitted : IsAdmitted o C V e) (legal : IsLegalAt o (ops (serial C V ++ of e.by V) ++ e.op ∷ [])) (facts : EscrowFacts o C V) where
  -- what each did, with the operation
  abbrev own : ℕ → List ℕ
  own = with_op (own_at C V) e.by e.op

  abbrev bound : ℕ
  bound = above_at e.by (pending C V)

  -- the number at which the machine looks
  number : number_at o C V ≡ facts.base
  number = ap (λ found. unwrap_or found 0) facts.reached

  outside : (u : ℕ) → bound ≤ u → own u ≡ []
  outside u far =
      let more = above-t e.by (pending C V) in
      let other : (u == e.by) ≡ false = ne_eqb u e.by (λ same. omega (arith, far, more, same)) in
      rw (other, above-none e.by u (pending C V) far) refl

  here : IsLegal o.table (Some facts.base) (own e.by)
  here =
      let mine : own_at C V e.by ≡ ops (of e.by V) = ap ops (of-pending C e.by V admitted.uncommitted) in
      let whole : ops (serial C V ++ of e.by V) ++ e.op ∷ [] ≡ ops (serial C V) ++ (ops (of e.by V) ++ e.op ∷ []) =
      ap (λ w. w ++ e.op ∷ []) (ops-append (serial C V) (of e.by V)) ∙ append_assoc (ops (serial C V)) (ops (of e.by V)) (e.op ∷ []) in
      rw (eq-eqb e.by e.by refl, mine)
      (legal-behind along o.table (Some o.table.initial) (ops (serial C V)) (ops (of e.by V) ++ e.op ∷ []) facts.base facts.reached (rw whole at legal))

  free : (u : ℕ) → (u == e.by) ≡ false → keeps o.table o.amounts facts.base own bound e.by u ≡ false
  free u other =
      let P : ℕ → Type 0 = λ v. keeps o.table o.amounts facts.base own bound e.by v ≡ false in
      elim (each-other P C e.by u V (eqb-sym e.by u ∙ other) (rw (kind, number) at admitted.free)) [
        | inl none ↦ nothing o.table o.amounts facts.base bound own e.by u (rw (other, none) refl)
        | inr held ↦ held
      ]

  pub escrow_op : EscrowFacts o C (V ++ e ∷ [])
  escrow_op =
      let firm = apply o.table o.amounts facts.base bound own e.by (covers_escrow o covered kind) outside here free in
      record {
        base = facts.base;
        reached = rw (serial-apart C V e admitted.uncommitted) facts.reached;
        firm = strikes o.table o.amounts facts.base own (own_at C (V ++ e ∷ [])) firm
            (λ u. ([], own-more C V e u admitted.uncommitted ∙ sym (append-nil (own_at C (V ++ e ∷ []) u))));
      }

-- ---- a strike

pub escrow_strike : FirmAfterStrike → (o : Object) (C : List ℕ) (V : List Entry) (t n : ℕ) → is_among C t ≡ false → EscrowFacts o C V → EscrowFacts o C (keep_first (is_by t) n V)
escrow_strike strikes o C V t n apart facts = record {
  base = facts.base;
  reached = rw (serial-strike C t n V apart) facts.reached;
  firm = strikes o.table o.amounts facts.base (own_at C V) (own_at C (keep_first (is_by t) n V)) facts.firm
      (λ u. elim (cases_Bool (t == u)) [
        | inl same ↦ (
          ops (drop n (of t (pending C V))),
          rw (
            pending-strike C t n V apart,
            sym (eqb-true t u same),
            keep_first-mine (is_by t) n (pending C V),
            ← ops-append (take n (of t (pending C V))) (drop n (of t (pending C V))),
            take-append-drop n (of t (pending C V)),
          ) refl,
        )
        | inr other ↦ (
          [],
          rw (pending-strike C t n V apart, keep_first-others (is_by u) (is_by t) n (pending C V) (λ e mine. is_one-apart e.by t u other mine), append-nil (own_at C V u)) refl,
        )
      ]);
}

-- ---- a commit

-- of others than t, leaving out t's
of-without : (t u : ℕ) (V : List Entry) → (u == t) ≡ false → of u (filter (λ e. not (is_by t e)) V) ≡ of u V
of-without t u [] other = refl
of-without t u (e ∷ V) other =
    elim (cases_Bool (e.by == u)) [
      | inl is ↦ let isnt : (e.by == t) ≡ false = is_one-apart e.by u t other is in rw (isnt, is) (ap (λ rest. e ∷ rest) (of-without t u V other))
      | inr isnt ↦ elim (cases_Bool (e.by == t)) [
        | inl mine ↦ rw (mine, isnt) (of-without t u V other)
        | inr others ↦ simp (others, isnt) (of-without t u V other)
      ]
    ]

-- of t, leaving out t's
of-itself : (t : ℕ) (V : List Entry) → of t (filter (λ e. not (is_by t e)) V) ≡ []
of-itself t [] = refl
of-itself t (e ∷ V) =
    elim (cases_Bool (e.by == t)) [
      | inl mine ↦ rw mine (of-itself t V)
      | inr others ↦ simp others (of-itself t V)
    ]

pub escrow_commit : RunsAlong → LegalEnds → FirmAfterCommit → FirmIsLegal → (o : Object) (C : List ℕ) (V : List Entry) (t : ℕ) → IsCovered o → o.kind ≡ Escrow → is_among C t ≡ false →
    EscrowFacts o C V → EscrowFacts o (C ++ t ∷ []) V
escrow_commit along ends commits firm_legal o C V t covered kind apart facts =
    let reached = ends o.table (Some facts.base) (own_at C V t) (firm_legal o.table o.amounts facts.base (own_at C V) t facts.firm) in
    let mine : own_at C V t ≡ ops (of t V) = ap ops (of-pending C t V apart) in
    record {
      base = reached.0;
      reached = rw (serial-snoc C t V, run-append along o.table (Some o.table.initial) (serial C V) (of t V), facts.reached, ← mine) reached.1;
      firm = commits o.table o.amounts facts.base reached.0 (own_at C V) (own_at (C ++ t ∷ []) V) t (covers_escrow o covered kind) facts.firm reached.1
          (rw (pending-snoc C t V, of-itself t (pending C V)) refl)
          (λ u other. rw (pending-snoc C t V, of-without t u (pending C V) other) refl);
    }
