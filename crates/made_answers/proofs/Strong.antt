-- A yes for update in place is strong where the type is numeric.
use Rattle.std.proofs.Common.{◌≡◌, ℕ, Bool, [], ◌∷◌, Some, refl, sym, ap, subst, ◌∙◌, arith}
use Rattle.type_table.specs.Commute.{CommutesBackward, CommutesBackwardBothWays}
use Rattle.type_table.specs.Run.{Looks, run}
use Rattle.type_table.specs.StateSet.{has}
use Rattle.type_table.specs.Table.{Table, next}
use Rattle.type_table.specs.declared.table_kind.TableKind.TheVariants.{Undo}
use Rattle.type_table.proofs.Legal.{from_state, some_state}
use Rattle.escrow_laws.specs.Amounts.{Amounts, IsNumeric}
use Rattle.made_answers.specs.Laws.{ExactAnswers, ExactStrength, NumericIsStrong}

-- two operations lead to the same number in either order
same_end : (T : Table) (a : Amounts) → IsNumeric T a → (s p q x y : ℕ) → run T (Some s) (q ∷ p ∷ []) ≡ Some x → run T (Some s) (p ∷ q ∷ []) ≡ Some y → x ≡ y
same_end T a numeric s p q x y first second =
    let one = from_state T (next T s q) (p ∷ []) (rw first refl) in
    let two = from_state T (next T s p) (q ∷ []) (rw second refl) in
    let one_then = numeric.moves one.0 p x (rw one.1 at first) in
    let two_then = numeric.moves two.0 q y (rw two.1 at second) in
    omega (arith, numeric.moves s q one.0 one.1, numeric.moves s p two.0 two.1, one_then, two_then)

-- so what commutes backward does so both ways
both_ways : (T : Table) (a : Amounts) → IsNumeric T a → (set : ℕ → Bool) (p q : ℕ) → CommutesBackward T set p q → CommutesBackwardBothWays T set p q
both_ways T a numeric set p q commutes = λ s member legal.
    let ends = commutes s member legal in
    let first = some_state (run T (Some s) (q ∷ p ∷ [])) legal in
    let second = some_state (run T (Some s) (p ∷ q ∷ [])) ends.0 in
    let same : run T (Some s) (p ∷ q ∷ []) ≡ run T (Some s) (q ∷ p ∷ []) =
    second.1 ∙ sym (ap Some (same_end T a numeric s p q first.0 second.0 first.1 second.1)) ∙ sym first.1 in
    (ends.0, (ends.1, subst (λ o. Looks T (run T (Some s) (p ∷ q ∷ [])) o) same (λ w h. h)))

pub numeric_is_strong : ExactAnswers → ExactStrength → NumericIsStrong
numeric_is_strong answers strength = λ file a exact numeric yes.
    let covered = (answers Undo file exact).0 yes in
    record {
      yes = yes;
      strong = (strength Undo file exact).1 (record {
        begins_inside = covered.begins_inside;
        closed = covered.closed;
        commute = λ p q free. both_ways file.table a numeric (has file.reach) p q (covered.commute p q free);
      });
    }
