-- The first number that passes a test, and the first failing triple by the number of its pair.
use Rattle.std.proofs.Common.{◌≡◌, ℕ, zero, suc, ◌+◌, ◌<◌, ◌≤◌, ◌*◌, Bool, true, false, not, ◌&&◌, cond, List, length, get_or, Option, Some, None, MatchOption, refl, sym, ap, ◌∙◌, inl, inr, arith}
use Rattle.std.specs.Prelude.{is_some}
use Rattle.std.specs.List.{find, list_any, range_with_len}
use Rattle.std.proofs.lemmas.Bool.{cases_eq, false≢true}
use Rattle.std.proofs.lemmas.List.Folds.{list_any_at}
use Rattle.std.proofs.lemmas.List.FromFn.{length-range_with_len, get_or-range_with_len}
use Rattle.std.proofs.lemmas.Nat.{div-mul-add, mod-mul-add, div-add-mod'}
use Rattle.std.proofs.Math.Nat.{mul-le-mul_left}
use Rattle.type_table.specs.Table.{Table}
use Rattle.type_table.specs.ConflictTable.{conflicts}
use Rattle.declared_types.specs.declared.type_file.TypeFile.{TypeFile}
use Rattle.table_checker.specs.Condition.{fails_in_set, fails_at, PassesEverywhere, IsFirstFailure}
use Rattle.table_checker.specs.Scan.{PairPasses, IsFirstState, requested_of, held_of, pair_fails, NoneBelow, IsFirstBelow}
use Rattle.table_checker.specs.declared.condition.Condition.{Condition}
use Rattle.table_checker.proofs.Numbers.{before_cases}

-- no number of the range passes
abbrev pub NoneIn : (ℕ → Bool) → ℕ → ℕ → Type 0
NoneIn test a n = (i : ℕ) → a ≤ i → i < a + n → test i ≡ false

-- a number of the range passes, and none before it does
pub record IsFirstIn (test : ℕ → Bool) (a n k : ℕ) : Type 0 where
  pub above : a ≤ k
  pub below : k < a + n
  pub passes : test k ≡ true
  pub first : (i : ℕ) → a ≤ i → i < k → test i ≡ false

-- where the number before a range doesn't pass either, none of the longer range does
no_more : (test : ℕ → Bool) (a n : ℕ) → test a ≡ false → NoneIn test (a + 1) n → NoneIn test a (suc n)
no_more test a n h rest i low high = elim (cases_eq i a) [ inl same ↦ rw same h | inr other ↦ rest i (omega (arith, other)) (omega arith) ]

-- where the number before a range doesn't pass, the first of the range is the first of the longer one
found_later : (test : ℕ → Bool) (a n k : ℕ) → test a ≡ false → IsFirstIn test (a + 1) n k → IsFirstIn test a (suc n) k
found_later test a n k h rest = record {
  above = omega (arith, rest.above);
  below = omega (arith, rest.below);
  passes = rest.passes;
  first = λ i low high. elim (cases_eq i a) [ inl same ↦ rw same h | inr other ↦ rest.first i (omega (arith, other)) high ];
}

-- what a search over a range finds, from what it finds after the first number
found-at_head : (test : ℕ → Bool) (a n : ℕ) (o : Option ℕ) (b : Bool) → test a ≡ b → MatchOption o (NoneIn test (a + 1) n) (IsFirstIn test (a + 1) n) →
    MatchOption (cond b (Some a) o) (NoneIn test a (suc n)) (IsFirstIn test a (suc n))
found-at_head test a n o true h rest = record { above = omega arith; below = omega arith; passes = h; first = λ i low high. absurd (omega arith) }
found-at_head test a n None false h rest = no_more test a n h rest
found-at_head test a n (Some k) false h rest = found_later test a n k h rest

-- what a search over a range finds
find-first_in : (test : ℕ → Bool) (a n : ℕ) → MatchOption (find test (range_with_len a n)) (NoneIn test a n) (IsFirstIn test a n)
find-first_in test a zero = λ i low high. absurd (omega arith)
find-first_in test a (suc n) = found-at_head test a n (find test (range_with_len (a + 1) n)) (test a) refl (find-first_in test (a + 1) n)

-- what a search over all numbers below n finds
pub find-first : (test : ℕ → Bool) (n : ℕ) → MatchOption (find test (range_with_len 0 n)) (NoneBelow test n) (IsFirstBelow test n)
find-first test n = below (find test (range_with_len 0 n)) (find-first_in test 0 n)
  where
    below : (o : Option ℕ) → MatchOption o (NoneIn test 0 n) (IsFirstIn test 0 n) → MatchOption o (NoneBelow test n) (IsFirstBelow test n)
    below None h = λ i high. h i (omega arith) (omega (arith, high))
    below (Some k) h = record { below = omega (arith, h.below); passes = h.passes; first = λ i high. h.first i (omega arith) high }

-- ---- states

-- no state of a range fails where none of it does
none_any : (test : ℕ → Bool) (a n : ℕ) → NoneIn test a n → list_any test (range_with_len a n) ≡ false
none_any test a zero h = refl
none_any test a (suc n) h = rw (h a (omega arith) (omega arith)) (none_any test (a + 1) n (λ i low high. h i (omega (arith, low)) (omega (arith, high))))

-- one that does is enough
some_any : (test : ℕ → Bool) (n s : ℕ) → s < n → test s ≡ true → list_any test (range_with_len 0 n) ≡ true
some_any test n s below h =
    let there : get_or (range_with_len 0 n) s 0 ≡ s = omega (arith, get_or-range_with_len 0 n s 0 below) in
    list_any_at test (range_with_len 0 n) s 0 (omega (arith, below, length-range_with_len 0 n)) (ap test there ∙ h)

-- a first failing state is there exactly where some state fails
pub somewhere : (condition : Condition) (file : TypeFile) (p q : ℕ) (o : Option ℕ) → MatchOption o (PairPasses condition file p q) (IsFirstState condition file p q) →
    is_some o ≡ list_any (fails_in_set condition file p q) (range_with_len 0 file.table.states)
somewhere condition file p q None h = sym (none_any (fails_in_set condition file p q) 0 file.table.states (λ i low high. h i (omega (arith, high))))
somewhere condition file p q (Some s) h = sym (some_any (fails_in_set condition file p q) file.table.states s h.state h.fails)

-- ---- pairs

-- the pair of p and q has this number
abbrev number_of_pair : Table → ℕ → ℕ → ℕ
number_of_pair T p q = p * length T.ops + q

requested_of-pair : (T : Table) (p q : ℕ) → q < length T.ops → requested_of T (number_of_pair T p q) ≡ p
requested_of-pair T p q q_in = div-mul-add p (length T.ops) q q_in

held_of-pair : (T : Table) (p q : ℕ) → q < length T.ops → held_of T (number_of_pair T p q) ≡ q
held_of-pair T p q q_in = mod-mul-add p (length T.ops) q q_in

-- a pair that doesn't fail anywhere doesn't fail at a state
passes-at : (condition : Condition) (file : TypeFile) (rows : List (List Bool)) (p q s : ℕ) → q < length file.table.ops → s < file.table.states →
    pair_fails condition file rows (number_of_pair file.table p q) ≡ false → fails_at condition file rows p q s ≡ false
unfolding pair_fails
passes-at condition file rows p q s q_in s_in h =
    let here : (not (conflicts rows p q) && list_any (fails_in_set condition file p q) (range_with_len 0 file.table.states)) ≡ false =
    rw (requested_of-pair file.table p q q_in, held_of-pair file.table p q q_in) at h in
    both_false (not (conflicts rows p q)) (list_any (fails_in_set condition file p q) (range_with_len 0 file.table.states)) (fails_in_set condition file p q s) here
    (some_any (fails_in_set condition file p q) file.table.states s s_in)
  where
    both_false : (outside any one : Bool) → (outside && any) ≡ false → (one ≡ true → any ≡ true) → (outside && one) ≡ false
    both_false false any one h k = refl
    both_false true any false h k = refl
    both_false true any true h k = absurd (false≢true (sym h ∙ k refl))

-- where no pair fails, each triple passes
pub none-passes : (condition : Condition) (file : TypeFile) (rows : List (List Bool)) →
    NoneBelow (pair_fails condition file rows) (length file.table.ops * length file.table.ops) → PassesEverywhere condition file rows
none-passes condition file rows none p q s inside =
    passes-at condition file rows p q s inside.held inside.state (none (number_of_pair file.table p q) (omega (arith, inside.held, mul-le-mul_left (length file.table.ops) inside.requested)))

-- the first state of the first pair that fails is the first failure
first-fails : (condition : Condition) (file : TypeFile) (rows : List (List Bool)) (p q s : ℕ) → p < length file.table.ops → q < length file.table.ops →
    conflicts rows p q ≡ false → NoneBelow (pair_fails condition file rows) (number_of_pair file.table p q) → IsFirstState condition file p q s → IsFirstFailure condition file rows p q s
first-fails condition file rows p q s p_in q_in outside none h = record {
  inside = record { requested = p_in; held = q_in; state = h.state };
  fails = rw (outside, h.fails) refl;
  first = λ a b r there less. elim (before_cases file.table p q s a b r q_in h.state less) [
    | inl above ↦ passes-at condition file rows a b r there.held there.state (none (number_of_pair file.table a b) (omega (arith, above, there.held, mul-le-mul_left (length file.table.ops) above)))
    | inr rest ↦ elim (rest.1) [
      | inl lesser ↦ passes-at condition file rows a b r there.held there.state (none (number_of_pair file.table a b) (omega (arith, lesser, ap (λ x. x * length file.table.ops) rest.0)))
      | inr same ↦ rw (rest.0, same.0) (rw (outside, h.first r same.1) refl)
    ]
  ];
}

-- a pair that fails is outside the conflict table, and fails at some state
pair_parts : (condition : Condition) (file : TypeFile) (rows : List (List Bool)) (n p q : ℕ) → p ≡ requested_of file.table n → q ≡ held_of file.table n → pair_fails condition file rows n ≡ true →
    (conflicts rows p q ≡ false) × (list_any (fails_in_set condition file p q) (range_with_len 0 file.table.states) ≡ true)
unfolding pair_fails
pair_parts condition file rows n p q e k h = rw (e, k) (both_true (conflicts rows (requested_of file.table n) (held_of file.table n)) (list_any (fails_in_set condition file (requested_of file.table n) (held_of file.table n)) (range_with_len 0 file.table.states)) h)
  where
    both_true : (inside any : Bool) → (not inside && any) ≡ true → (inside ≡ false) × (any ≡ true)
    both_true false true h = (refl, refl)
    both_true false false h = absurd (false≢true h)
    both_true true any h = absurd (false≢true h)

-- a pair that fails doesn't pass everywhere
pub fails-somewhere : (condition : Condition) (file : TypeFile) (rows : List (List Bool)) (n p q : ℕ) → p ≡ requested_of file.table n → q ≡ held_of file.table n → pair_fails condition file rows n ≡ true →
    PairPasses condition file p q → ⊥
fails-somewhere condition file rows n p q e k h passes = false≢true (somewhere condition file p q None passes ∙ (pair_parts condition file rows n p q e k h).1)

-- the first state of the first number whose pair fails is the first failure
pub first-of_number : (condition : Condition) (file : TypeFile) (rows : List (List Bool)) (n count p q s : ℕ) → p ≡ requested_of file.table n → q ≡ held_of file.table n → p < length file.table.ops → q < length file.table.ops →
    IsFirstBelow (pair_fails condition file rows) count n → IsFirstState condition file p q s → IsFirstFailure condition file rows p q s
first-of_number condition file rows n count p q s e k p_in q_in first h =
    let number : number_of_pair file.table p q ≡ n = rw (e, k) (div-add-mod' n (length file.table.ops)) in
    first-fails condition file rows p q s p_in q_in (pair_parts condition file rows n p q e k first.passes).0 (rw number first.first) h
