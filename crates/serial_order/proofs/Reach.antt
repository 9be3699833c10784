-- How far back rollbacks reach: how many operations of a transaction from before some events are struck by them.
use Rattle.std.proofs.Common.{◌≡◌, ℕ, zero, suc, ◌+◌, ◌-◌, ◌≤◌, Bool, cond, ◌||◌, nat_lt, List, [], ◌∷◌, ◌++◌, take, length, refl, ap, ◌∙◌, arith, add-one, add_assoc, zero-add}
use Rattle.std.specs.List.{list_any, range_with_len}
use Rattle.std.proofs.lemmas.Bool.Decides.{nat_tests}
use Rattle.std.proofs.lemmas.List.Sums.{sum_by-cons}
use Rattle.object_trait.specs.declared.event.Event.{Event}
use Rattle.object_trait.specs.declared.event.EventKind.{EventKind}
use Rattle.serial_order.specs.Readings.{is_op_of, taken_back, executed, rolled_back, is_rolled_back}

-- one where the event is an operation of t
abbrev pub op_count : ℕ → EventKind → ℕ
op_count t happened = cond (is_op_of t happened) 1 0

-- how many operations of t from before these events are struck by them, and by a rollback of n that comes after them
abbrev pub reach : ℕ → List Event → ℕ → ℕ
reach t [] n = n
reach t (e ∷ K) n = (taken_back t e.kind + reach t K n) - op_count t e.kind

-- with one more event
pub reach-snoc : (t : ℕ) (K : List Event) (e : Event) (n : ℕ) → reach t (K ++ e ∷ []) n ≡ reach t K ((taken_back t e.kind + n) - op_count t e.kind)
reach-snoc t [] e n = refl
reach-snoc t (f ∷ K) e n = ap (λ r. (taken_back t f.kind + r) - op_count t f.kind) (reach-snoc t K e n)

-- ---- up to which event more was taken back than executed

-- a test of the numbers from the one after a on is a test of those from a on, each by the next
any-next : (test : ℕ → Bool) (a n : ℕ) → list_any test (range_with_len (a + 1) n) ≡ list_any (λ i. test (i + 1)) (range_with_len a n)
any-next test a zero = refl
any-next test a (suc n) = ap (λ rest. test (a + 1) || rest) (any-next test (a + 1) n)

-- tests that agree
any-agree : (test other : ℕ → Bool) → ((i : ℕ) → test i ≡ other i) → (V : List ℕ) → list_any test V ≡ list_any other V
any-agree test other same [] = refl
any-agree test other same (i ∷ V) = rw (same i, any-agree test other same V) refl

-- with d operations executed and r taken back before, more was taken back up to some event
abbrev is_over : ℕ → ℕ → ℕ → List Event → Bool
is_over t d r K = list_any (λ n. nat_lt (d + executed t (take n K)) (r + rolled_back t (take n K))) (range_with_len 0 (suc (length K)))

-- the operations executed in one event and those after it
executed-next : (t i : ℕ) (e : Event) (K : List Event) → executed t (take (i + 1) (e ∷ K)) ≡ op_count t e.kind + executed t (take i K)
executed-next t i e K = rw add-one (sum_by-cons (λ (f : Event). op_count t f.kind) e (take i K))

-- and those taken back
rolled_back-next : (t i : ℕ) (e : Event) (K : List Event) → rolled_back t (take (i + 1) (e ∷ K)) ≡ taken_back t e.kind + rolled_back t (take i K)
rolled_back-next t i e K = rw add-one (sum_by-cons (λ (f : Event). taken_back t f.kind) e (take i K))

-- more was taken back before an event, or up to one from it on
over-step : (d r x m n : ℕ) → x ≤ 1 → (nat_lt (d + 0) (r + 0) || nat_lt (d + x) ((r + m) + n)) ≡ nat_lt d (r + ((m + n) - x))
over-step d r x m n single = grind (arith, nat_tests)

-- at most one
op_count-single : (t : ℕ) (happened : EventKind) → op_count t happened ≤ 1
op_count-single t happened = grind (arith, nat_tests)

-- more is taken back up to some event than was executed where the rollbacks reach so far back
over-reach : (t d r : ℕ) (K : List Event) → is_over t d r K ≡ nat_lt d (r + reach t K 0)
over-reach t d r [] = grind (arith, nat_tests)
over-reach t d r (e ∷ K) =
    let test : ℕ → Bool = λ n. nat_lt (d + executed t (take n (e ∷ K))) (r + rolled_back t (take n (e ∷ K))) in
    let next : ℕ → Bool = λ n. nat_lt ((d + op_count t e.kind) + executed t (take n K)) ((r + taken_back t e.kind) + rolled_back t (take n K)) in
    let same : (i : ℕ) → test (i + 1) ≡ next i = λ i. rw (executed-next t i e K, rolled_back-next t i e K, ← (add_assoc d (op_count t e.kind) (executed t (take i K))), ← (add_assoc r (taken_back t e.kind) (rolled_back t (take i K)))) refl in
    ap (λ rest. nat_lt (d + 0) (r + 0) || rest) (any-next test 0 (suc (length K)) ∙ any-agree (λ i. test (i + 1)) next same (range_with_len 0 (suc (length K)))
    ∙ over-reach t (d + op_count t e.kind) (r + taken_back t e.kind) K)
    ∙ over-step d r (op_count t e.kind) (taken_back t e.kind) (reach t K 0) (op_count-single t e.kind)

-- so an operation is struck by a rollback after it where the rollbacks reach back to it
pub rolled_back-reach : (t : ℕ) (K : List Event) → is_rolled_back t K ≡ nat_lt 0 (reach t K 0)
rolled_back-reach t K =
    any-agree (λ n. nat_lt (executed t (take n K)) (rolled_back t (take n K))) (λ n. nat_lt (0 + executed t (take n K)) (0 + rolled_back t (take n K)))
    (λ n. rw (zero-add (executed t (take n K)), zero-add (rolled_back t (take n K))) refl) (range_with_len 0 (suc (length K)))
    ∙ over-reach t 0 0 K ∙ ap (λ n. nat_lt 0 n) (zero-add (reach t K 0))
