-- Triples in ascending order.
use Rattle.std.proofs.Common.{◌≡◌, ℕ, ◌+◌, ◌*◌, ◌<◌, ◌≤◌, ◌⊎◌, length, inl, inr, ap, arith}
use Rattle.std.proofs.lemmas.Bool.{cases_lt}
use Rattle.std.proofs.Math.Nat.{mul-le-mul_left}
use Rattle.type_table.specs.Table.{Table}
use Rattle.table_checker.specs.Condition.{triple_number}

-- the greater number has no smaller row
pub row_not_behind : (width m n r s : ℕ) → s < width → n * width + r ≤ m * width + s → n ≤ m
row_not_behind width m n r s below h =
    elim (cases_lt m n) [
      | inl behind ↦ absurd (omega (arith, h, below, mul-le-mul_left width behind))
      | inr fine ↦ fine
    ]

-- the same in one row
within_row : (states ops a p b q r s : ℕ) → a ≡ p → (a * ops + b) * states + r < (p * ops + q) * states + s → s < states → (b < q) ⊎ ((b ≡ q) × (r < s))
within_row states ops a p b q r s e h s_in =
    let held : b ≤ q = row_not_behind states q b r s s_in (shifted (p * ops) (ap (λ x. x * ops) e) h) in
    elim (cases_lt b q) [
      | inl less ↦ inl less
      | inr above ↦ let same : b ≡ q = omega arith in inr (same, last (a * ops + b) (p * ops + q) (omega (arith, same, ap (λ x. x * ops) e)) h)
    ]
  where
    shifted : (front : ℕ) → a * ops ≡ front → (a * ops + b) * states + r < (front + q) * states + s → b * states + r ≤ q * states + s
    shifted front e2 h2 = omega (arith, h2, ap (λ x. x * states) e2)

    last : (m n : ℕ) → m ≡ n → m * states + r < n * states + s → r < s
    last m n e2 h2 = omega (arith, h2, ap (λ x. x * states) e2)

-- what a smaller number says of its triple
pub before_cases : (T : Table) (p q s a b r : ℕ) → q < length T.ops → s < T.states → triple_number T a b r < triple_number T p q s →
    (a < p) ⊎ ((a ≡ p) × ((b < q) ⊎ ((b ≡ q) × (r < s))))
before_cases T p q s a b r q_in s_in h =
    let pair : a * length T.ops + b ≤ p * length T.ops + q = row_not_behind T.states (p * length T.ops + q) (a * length T.ops + b) r s s_in (omega (arith, h)) in
    let requested : a ≤ p = row_not_behind (length T.ops) p a b q q_in pair in
    elim (cases_lt a p) [
      | inl less ↦ inl less
      | inr same ↦ inr (omega arith, within_row T.states (length T.ops) a p b q r s (omega arith) h s_in)
    ]
