-- The small types of the worked examples.
use Rattle.std.proofs.Common.{◌≡◌, ℕ, zero, suc, ◌<◌, ◌≤◌, ◌==◌, ltb, false, List, [], ◌∷◌, length, Option, Some, None, refl, arith}
use Rattle.std.proofs.lemmas.Bool.{false≢true, le-ltb, ne_eqb, and_left, or_from}
use Rattle.type_table.specs.Table.{Table, next}
use Rattle.type_table.specs.Examples.{one_way, counter_table}
use Rattle.equi_cert.specs.Relation.{relates}
use Rattle.table_checker.specs.Examples.{counter_file}
use Rattle.exact_tables.specs.Exact.{IsExact}
use Rattle.type_table.proofs.Legal.{legal-somewhere}
use Rattle.exact_tables.specs.Tell.{Tells, comes_before, IsDistinguishing}
use Rattle.exact_tables.specs.Examples.{two_items}

-- a list that begins with an operation that is legal nowhere distinguishes nothing
stuck : (T : Table) (s k : ℕ) (b : Option ℕ) (w : List ℕ) → next T s k ≡ None → Tells T (Some s) b (k ∷ w) → ⊥
stuck T s k b w none tells = false≢true (rw none at (legal-somewhere T (next T s k) w tells.0))

-- a number above the operations is none
past_ops : (T : Table) (s k : ℕ) → length T.ops ≤ k → next T s k ≡ None
unfolding next
past_ops T s k past = rw (le-ltb k (length T.ops) past) refl

-- a list that begins with a greater operation doesn't come before another
not_before : (k l : ℕ) (v w : List ℕ) → l < k → comes_before (k ∷ v) (l ∷ w) ≡ false
not_before k l v w above = or_from (ltb k l) _ (le-ltb k l (omega (arith, above))) (and_left (k == l) _ (ne_eqb k l (λ e. omega (arith, e, above))))

-- ---- q and then r, of the one-way type

two_zero-shortest : (v : List ℕ) → Tells one_way (Some 2) (Some 0) v → 2 ≤ length v
unfolding next
two_zero-shortest [] tells = absurd (tells.1 refl)
two_zero-shortest (zero ∷ []) tells = absurd (stuck one_way 2 0 (Some 0) [] refl tells)
two_zero-shortest (suc zero ∷ []) tells = absurd (tells.1 refl)
two_zero-shortest (suc (suc zero) ∷ []) tells = absurd (stuck one_way 2 2 (Some 0) [] refl tells)
two_zero-shortest (suc (suc (suc k)) ∷ []) tells = absurd (stuck one_way 2 (suc (suc (suc k))) (Some 0) [] (past_ops one_way 2 (suc (suc (suc k))) (omega arith)) tells)
two_zero-shortest (k ∷ l ∷ w) tells = omega arith

two_zero-first : (v : List ℕ) → Tells one_way (Some 2) (Some 0) v → length v ≡ 2 → comes_before v (1 ∷ 2 ∷ []) ≡ false
unfolding next
two_zero-first [] tells long = absurd (tells.1 refl)
two_zero-first (k ∷ []) tells long = absurd (omega (arith, long))
two_zero-first (zero ∷ l ∷ w) tells long = absurd (stuck one_way 2 0 (Some 0) (l ∷ w) refl tells)
two_zero-first (suc zero ∷ zero ∷ w) tells long = absurd (stuck one_way 4 0 (Some 1) w refl tells)
two_zero-first (suc zero ∷ suc zero ∷ w) tells long = absurd (stuck one_way 4 1 (Some 1) w refl tells)
two_zero-first (suc zero ∷ suc (suc zero) ∷ []) tells long = refl
two_zero-first (suc zero ∷ suc (suc zero) ∷ m ∷ w) tells long = absurd (omega (arith, long))
two_zero-first (suc zero ∷ suc (suc (suc l)) ∷ w) tells long = not_before (suc (suc (suc l))) 2 w [] (omega arith)
two_zero-first (suc (suc k) ∷ l ∷ w) tells long = not_before (suc (suc k)) 1 (l ∷ w) (2 ∷ []) (omega arith)

pub q_and_r : IsDistinguishing one_way (Some 2) (Some 0) (1 ∷ 2 ∷ [])
unfolding next
q_and_r = record { tells = (refl, λ legal. absurd (false≢true legal)); shortest = two_zero-shortest; first = two_zero-first }

-- ---- two enqueues, of the semiqueue

none_one-shortest : (v : List ℕ) → Tells two_items (Some 0) (Some 1) v → 2 ≤ length v
unfolding next
none_one-shortest [] tells = absurd (tells.1 refl)
none_one-shortest (zero ∷ []) tells = absurd (tells.1 refl)
none_one-shortest (suc zero ∷ []) tells = absurd (tells.1 refl)
none_one-shortest (suc (suc zero) ∷ []) tells = absurd (stuck two_items 0 2 (Some 1) [] refl tells)
none_one-shortest (suc (suc (suc zero)) ∷ []) tells = absurd (stuck two_items 0 3 (Some 1) [] refl tells)
none_one-shortest (suc (suc (suc (suc k))) ∷ []) tells =
    absurd (stuck two_items 0 (suc (suc (suc (suc k)))) (Some 1) [] (past_ops two_items 0 (suc (suc (suc (suc k)))) (omega arith)) tells)
none_one-shortest (k ∷ l ∷ w) tells = omega arith

-- nothing comes before a list of zeros that is as long
none_one-first : (v : List ℕ) → length v ≡ 2 → comes_before v (0 ∷ 0 ∷ []) ≡ false
none_one-first [] long = absurd (omega (arith, long))
none_one-first (k ∷ []) long = absurd (omega (arith, long))
none_one-first (zero ∷ zero ∷ []) long = refl
none_one-first (zero ∷ zero ∷ m ∷ w) long = absurd (omega (arith, long))
none_one-first (zero ∷ suc l ∷ w) long = not_before (suc l) 0 w [] (omega arith)
none_one-first (suc k ∷ l ∷ w) long = not_before (suc k) 0 (l ∷ w) (0 ∷ []) (omega arith)

pub two_enqueues : IsDistinguishing two_items (Some 0) (Some 1) (0 ∷ 0 ∷ [])
unfolding next
two_enqueues = record { tells = (refl, λ legal. absurd (false≢true legal)); shortest = none_one-shortest; first = λ v tells long. none_one-first v long }

-- ---- and a dequeue

one_none-shortest : (v : List ℕ) → Tells two_items (Some 1) (Some 0) v → 1 ≤ length v
one_none-shortest [] tells = absurd (tells.1 refl)
one_none-shortest (k ∷ w) tells = omega arith

one_none-first : (v : List ℕ) → Tells two_items (Some 1) (Some 0) v → length v ≡ 1 → comes_before v (3 ∷ []) ≡ false
unfolding next
one_none-first [] tells long = absurd (omega (arith, long))
one_none-first (zero ∷ []) tells long = absurd (tells.1 refl)
one_none-first (suc zero ∷ []) tells long = absurd (tells.1 refl)
one_none-first (suc (suc zero) ∷ []) tells long = absurd (stuck two_items 1 2 (Some 0) [] refl tells)
one_none-first (suc (suc (suc zero)) ∷ []) tells long = refl
one_none-first (suc (suc (suc (suc k))) ∷ []) tells long = not_before (suc (suc (suc (suc k)))) 3 [] [] (omega arith)
one_none-first (k ∷ l ∷ w) tells long = absurd (omega (arith, long))

pub one_dequeue : IsDistinguishing two_items (Some 1) (Some 0) (3 ∷ [])
unfolding next
one_dequeue = record { tells = (refl, λ legal. absurd (false≢true legal)); shortest = one_none-shortest; first = one_none-first }

-- ---- the counter

-- each of its states looks like itself alone, as its file's relation says
pub counter-exact : IsExact counter_table (relates counter_file.relation)
unfolding next
counter-exact zero zero = (λ h. (omega arith, omega arith, λ w legal. legal), λ h. refl)
counter-exact zero (suc zero) = (λ h. absurd (false≢true h), λ h. absurd (false≢true (h.2 (0 ∷ 0 ∷ []) refl)))
counter-exact zero (suc (suc zero)) = (λ h. absurd (false≢true h), λ h. absurd (false≢true (h.2 (0 ∷ []) refl)))
counter-exact zero (suc (suc (suc t))) = (λ h. absurd (false≢true h), λ h. absurd (omega (arith, h.1)))
counter-exact (suc zero) zero = (λ h. absurd (false≢true h), λ h. absurd (false≢true (h.2 (1 ∷ []) refl)))
counter-exact (suc zero) (suc zero) = (λ h. (omega arith, omega arith, λ w legal. legal), λ h. refl)
counter-exact (suc zero) (suc (suc zero)) = (λ h. absurd (false≢true h), λ h. absurd (false≢true (h.2 (0 ∷ []) refl)))
counter-exact (suc zero) (suc (suc (suc t))) = (λ h. absurd (false≢true h), λ h. absurd (omega (arith, h.1)))
counter-exact (suc (suc zero)) zero = (λ h. absurd (false≢true h), λ h. absurd (false≢true (h.2 (1 ∷ []) refl)))
counter-exact (suc (suc zero)) (suc zero) = (λ h. absurd (false≢true h), λ h. absurd (false≢true (h.2 (1 ∷ 1 ∷ []) refl)))
counter-exact (suc (suc zero)) (suc (suc zero)) = (λ h. (omega arith, omega arith, λ w legal. legal), λ h. refl)
counter-exact (suc (suc zero)) (suc (suc (suc t))) = (λ h. absurd (false≢true h), λ h. absurd (omega (arith, h.1)))
counter-exact (suc (suc (suc s))) t = (λ h. absurd (false≢true h), λ h. absurd (omega (arith, h.0)))
