-- The worked examples: bounds that are within, first faults, and what two transactions did.
use Rattle.std.proofs.Common.{◌≡◌, ℕ, zero, suc, ◌+◌, ◌<◌, ◌≤◌, Bool, true, false, ◌&&◌, ◌||◌, ◌==◌, List, [], ◌∷◌, length, Some, refl, subst, ◌∙◌, inl, inr, arith, lit<}
use Rattle.std.specs.Prelude.{nat_le}
use Rattle.std.specs.List.{list_all}
use Rattle.std.proofs.lemmas.Bool.{cases_Bool, eqb-true, ne_eqb, and_parts, or_parts, leb-true, agree_below, agree_below_at}
use Rattle.std.proofs.lemmas.Option.{none-some, same_Some}
use Rattle.type_table.specs.Table.{Table, next}
use Rattle.type_table.specs.Run.{IsLegal}
use Rattle.type_table.proofs.Elements.{eqb-sym}
use Rattle.escrow_laws.specs.declared.bounded.Bounded.{Bounded}
use Rattle.escrow_laws.specs.Amounts.{Amounts, IsNumeric}
use Rattle.escrow_laws.specs.Bounds.{IsWithinBounds, AreWithin}
use Rattle.escrow_laws.specs.Faults.{IsFirstNumericFault}
use Rattle.escrow_laws.specs.Search.{IsFirstLegalState, IsStretch, is_alike}
use Rattle.escrow_laws.specs.Firm.{IsIdleFrom, IsFirm, keeps}
use Rattle.escrow_laws.specs.Laws.{FirmAfterApply, NothingKeeps}
use Rattle.escrow_laws.specs.Marks.{AreMarks}
use Rattle.escrow_laws.specs.Examples.{five_ops, two_did, two_marks}
use Rattle.escrow_laws.proofs.Searching.{before-stop, stop-fault}

-- ---- bounds

-- an operation leads nowhere outside: a test that computes
abbrev pub is_within : ℕ → Bounded → Bool
is_within top b = nat_le b.takes b.low && (nat_le b.high top && nat_le (b.high + b.gives) (top + b.takes))

within-by : (top : ℕ) (b : Bounded) → is_within top b ≡ true → IsWithinBounds top b
within-by top b passes =
    let first = and_parts (nat_le b.takes b.low) (nat_le b.high top && nat_le (b.high + b.gives) (top + b.takes)) passes in
    let second = and_parts (nat_le b.high top) (nat_le (b.high + b.gives) (top + b.takes)) first.1 in
    record {
      enough = leb-true b.takes b.low first.0;
      legal = leb-true b.high top second.0;
      room = leb-true (b.high + b.gives) (top + b.takes) second.1;
    }

-- each of these
pub are_within : (top : ℕ) (ops : List Bounded) → list_all (is_within top) ops ≡ true → AreWithin top ops
are_within top [] all k b there = absurd (none-some b there)
are_within top (c ∷ ops) all zero b there = subst (λ d. IsWithinBounds top d) (same_Some c b there) (within-by top c (and_parts (is_within top c) (list_all (is_within top) ops) all).0)
are_within top (c ∷ ops) all (suc k) b there = are_within top ops (and_parts (is_within top c) (list_all (is_within top) ops) all).1 k b there

-- ---- faults

-- operation 0, which leads from 0 to t, is at fault where it first doesn't move alike, since it is legal there or later
pub first-fault : (T : Table) (t stop r e : ℕ) → next T 0 0 ≡ Some t → 0 < stop → stop < T.states → agree_below (λ q. is_alike 0 t q (next T q 0)) (λ _. true) stop ≡ true →
    is_alike 0 t stop (next T stop 0) ≡ false → stop ≤ r → next T r 0 ≡ Some e → 0 < length T.ops → IsFirstNumericFault T 0 stop
first-fault T t stop r e leads past inside alike ends far later some = record {
  operation = some;
  state = inside;
  fails = stop-fault T 0 0 t stop r e first stretch far later;
  least_operation = λ j q less _. omega (arith, less);
  least_state = before-stop T 0 0 t stop first stretch;
}
  where
    first : IsFirstLegalState T 0 0 0 t
    first = record {
      later = omega arith;
      leads = leads;
      least = λ q from less. absurd (omega (arith, less));
    }

    stretch : IsStretch T 0 0 t stop
    stretch = record {
      past = past;
      inside = omega (arith, inside);
      alike = λ q from less. agree_below_at (λ p. is_alike 0 t p (next T p 0)) (λ _. true) stop q alike less;
      ends = ends;
    }

-- ---- two transactions

idle-two : (first second : List ℕ) → IsIdleFrom 2 (two_did first second)
idle-two first second u far = rw (ne_eqb u 0 (λ same. omega (arith, far, same)), ne_eqb u 1 (λ same. omega (arith, far, same))) refl

-- what they did is firm, where what the second sees is legal and the first doesn't keep it from what it did last
pub firm-two : FirmAfterApply → NothingKeeps → (T : Table) (a : Amounts) (base : ℕ) (first second : List ℕ) → IsNumeric T a → IsLegal T (Some base) second → keeps T a base (two_did first second) 2 1 0 ≡ false →
    IsFirm T a base (two_did first second)
firm-two applies nothing T a base first second numeric legal free = applies T a base 2 (two_did first second) 1 numeric (idle-two first second) legal others
  where
    others : (u : ℕ) → (u == 1) ≡ false → keeps T a base (two_did first second) 2 1 u ≡ false
    others u other = elim (cases_Bool (u == 0)) [
      | inl is ↦ rw (eqb-true u 0 is) free
      | inr differ ↦ nothing T a base 2 (two_did first second) 1 u (rw (differ, other) refl)
    ]

-- the marks of two that each took 2
pub two-marked : AreMarks 5 five_ops (two_did (1 ∷ []) (1 ∷ [])) 2 two_marks
two-marked = record {
  exact = (refl, (refl, tt));
  inside = (lit< tt, (lit< tt, tt));
  some = (λ none. (let clash : 1 ∷ [] ≡ [] = none in cc), (λ none. (let clash : 1 ∷ [] ≡ [] = none in cc), tt));
  once = ((refl, tt), (tt, tt));
  all = λ u unlisted.
      let first = or_parts (0 == u) ((1 == u) || false) unlisted in
      let second = or_parts (1 == u) false first.1 in
      rw (eqb-sym u 0 ∙ first.0, eqb-sym u 1 ∙ second.0) refl;
}
