-- Numbers that are sorted, each once.
use Rattle.std.proofs.Common.{◌≡◌, ◌∙◌, ℕ, ◌==◌, eqb, true, List, [], get_or, sym, ap, subst, inl, inr, arith}
use Rattle.std.specs.List.{Contains, dedup}
use Rattle.std.specs.List.Sorted.{IsPermutation, IsSorted, IsStrictlyIncreasing}
use Rattle.std.specs.Ordering.{nat_cmp}
use Rattle.std.proofs.lemmas.Bool.{cases_Bool, eq-eqb, eqb-true, false≢true}
use Rattle.std.proofs.lemmas.List.Folds.{Any-from_list_any, list_any_at}
use Rattle.std.proofs.lemmas.List.Kept.{Contains-dedup_nat, Contains-from_dedup}
use Rattle.std.proofs.lemmas.List.Sorted.{Contains-permutation, IsPermutation-sym}
use Rattle.std.proofs.lemmas.Map.Keys.{IsStrictlyIncreasing-dedup}
use Rattle.serial_order.specs.Operations.{is_among}

-- one of these is an element
among-contains : (ns : List ℕ) (t : ℕ) → is_among ns t ≡ true → Contains ns t
among-contains ns t among =
    let (k, u, inside, at, is) = Any-from_list_any (λ u. u == t) ns among in
    subst (Contains ns) (eqb-true u t is) (k, inside, at)

contains-among : (ns : List ℕ) (t : ℕ) → Contains ns t → is_among ns t ≡ true
contains-among ns t there = list_any_at (λ u. u == t) ns there.0 t there.1 (eq-eqb (get_or ns there.0 t) t there.2)

-- two lists with the same elements
same-among : (A B : List ℕ) → ((t : ℕ) → Contains A t → Contains B t) → ((t : ℕ) → Contains B t → Contains A t) → (t : ℕ) → is_among A t ≡ is_among B t
same-among A B to from t =
    elim (cases_Bool (is_among A t)) [
      | inl mine ↦ mine ∙ sym (contains-among B t (to t (among-contains A t mine)))
      | inr other ↦ elim (cases_Bool (is_among B t)) [
        | inl its ↦ absurd (false≢true (sym other ∙ contains-among A t (from t (among-contains B t its))))
        | inr none ↦ other ∙ sym none
      ]
    ]

-- where there is none they ascend
pub none-ascend : IsStrictlyIncreasing []
none-ascend = λ i more. absurd (omega (arith, more))

-- after a sort and a dedup they ascend, and are the same
pub sorted-once : (those sorted now : List ℕ) → IsPermutation those sorted → IsSorted nat_cmp sorted → now ≡ dedup eqb sorted
    → IsStrictlyIncreasing now × ((t : ℕ) → is_among now t ≡ is_among those t)
sorted-once those sorted now moved order is = (
  subst IsStrictlyIncreasing (sym is) (IsStrictlyIncreasing-dedup sorted order),
  λ t. ap (λ ns. is_among ns t) is
      ∙ same-among (dedup eqb sorted) those (λ u there. Contains-permutation sorted those u (IsPermutation-sym those sorted moved) (Contains-from_dedup eqb sorted u there))
      (λ u there. Contains-dedup_nat sorted u (Contains-permutation those sorted u moved there)) t,
)
