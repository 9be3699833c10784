-- Numbers that ascend, told by neighbours.
use Rattle.std.proofs.Common.{◌≡◌, ℕ, zero, suc, ◌+◌, ◌<◌, List, [], ◌∷◌, length, get_or, subst, sym, add-one, arith}
use Rattle.std.specs.List.{AllByRecursion}
use Rattle.std.specs.List.Sorted.{IsStrictlyIncreasing}
use Rattle.type_table.proofs.Elements.{each-weaker}
use Rattle.object_trait.specs.Orders.{Pairs}

-- below its neighbour each is below all that follow
above-all : (u : ℕ) (P : List ℕ) → (0 < length P → u < get_or P 0 0) → Pairs (λ a b. a < b) P → AllByRecursion (λ b. u < b) P
above-all u [] next ascend = tt
above-all u (v ∷ P) next ascend = let low = next (omega arith) in (low, each-weaker (λ b more. omega (arith, low, more)) P ascend.0)

pub ascend-all : (P : List ℕ) → IsStrictlyIncreasing P → Pairs (λ a b. a < b) P
ascend-all [] rises = tt
ascend-all (u ∷ P) rises =
    let rest = ascend-all P (λ k inside. subst (λ n. get_or P k 0 < get_or (u ∷ P) n 0) (next k) (rises (suc k) (omega (arith, inside)))) in
    (above-all u P (λ some. rises 0 (omega (arith, some))) rest, rest)
  where
    next : (k : ℕ) → suc k + 1 ≡ suc (k + 1)
    next k = omega arith

-- and the reverse
pub rise-each : (P : List ℕ) → Pairs (λ a b. a < b) P → IsStrictlyIncreasing P
rise-each P ascend = λ k inside. subst (λ n. get_or P k 0 < get_or P n 0) (sym (add-one k)) (by P ascend k (omega (arith, inside)))
  where
    by : (P : List ℕ) → Pairs (λ a b. a < b) P → (k : ℕ) → suc k < length P → get_or P k 0 < get_or P (suc k) 0
    by [] ascend k inside = absurd (omega (arith, inside))
    by (u ∷ []) ascend k inside = absurd (omega (arith, inside))
    by (u ∷ v ∷ P) ascend zero inside = ascend.0.0
    by (u ∷ v ∷ P) ascend (suc k) inside = by (v ∷ P) ascend.1 k (omega (arith, inside))
