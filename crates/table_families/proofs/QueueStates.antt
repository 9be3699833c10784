-- The states of a semiqueue, by their lists of counts.
use Rattle.std.proofs.Common.{◌≡◌, ℕ, zero, suc, ◌+◌, ◌-◌, ◌<◌, Bool, true, false, not, cond, nat_lt, nat_le, List, [], ◌∷◌, length, map, take, drop, get_or, set, Option, Some, None, sum, refl, sym, ap, ◌∙◌, arith, add-one}
use Rattle.std.specs.List.{position}
use Rattle.std.specs.Str.{bytes_eq}
use Rattle.std.proofs.lemmas.Bool.{false_from_ne_true, eq-eqb, both_ways, not-true, not-false}
use Rattle.std.proofs.lemmas.List.{length-map, get_or-map, take-set, take_rest}
use Rattle.std.proofs.lemmas.List.Quantifiers.{position-Some}
use Rattle.std.proofs.lemmas.Slice.Eq.{bytes_eq-Decides}
use Rattle.type_table.proofs.Elements.{position-map}
use Rattle.table_families.specs.Semiqueue.{counts_at, semiqueue_state, semiqueue_enq, semiqueue_deq}

-- ---- a list with one count changed

-- lists that differ are found to differ
pub differ : (xs ys : List ℕ) → (xs ≡ ys → ⊥) → bytes_eq xs ys ≡ false
differ xs ys apart = false_from_ne_true (bytes_eq xs ys) (λ e. apart ((bytes_eq-Decides xs ys).0 e))

-- where the length, the place and what is before it agree, the rest decides
bytes_eq-set : (xs ys : List ℕ) (i v : ℕ) → i < length ys → length xs ≡ length ys → get_or xs i 0 ≡ v → take i xs ≡ take i ys → bytes_eq (drop (i + 1) xs) (drop (i + 1) ys) ≡ bytes_eq xs (set ys i v)
bytes_eq-set [] [] i v inside same here before = absurd (omega arith)
bytes_eq-set [] (y ∷ ys) i v inside same here before = cc
bytes_eq-set (x ∷ xs) [] i v inside same here before = cc
bytes_eq-set (x ∷ xs) (y ∷ ys) zero v inside same here before = rw (eq-eqb x v here) refl
bytes_eq-set (x ∷ xs) (y ∷ ys) (suc i) v inside same here before =
    let first : x ≡ y = cc in
    let rest : take i xs ≡ take i ys = cc in
    rw (eq-eqb x y first, add-one) (rw add-one at (bytes_eq-set xs ys i v (omega (arith, inside)) (omega (arith, same)) here rest))

-- lists that differ before the place are found to differ
pub differ-front : (xs ys : List ℕ) (i v : ℕ) → true ≡ not (bytes_eq (take i xs) (take i ys)) → false ≡ bytes_eq xs (set ys i v)
differ-front xs ys i v h =
    sym (differ xs (set ys i v) (λ e. both_ways (bytes_eq (take i xs) (take i ys)) (not-true (bytes_eq (take i xs) (take i ys)) (sym h)) ((bytes_eq-Decides (take i xs) (take i ys)).1 (ap (take i) e ∙ take-set ys i v))))

-- where they don't differ before it, the rest decides
pub rest-decides : (xs ys : List ℕ) (i v : ℕ) (r : Bool) → i < length ys → length xs ≡ length ys → get_or xs i 0 ≡ v → false ≡ not (bytes_eq (take i xs) (take i ys)) →
    r ≡ bytes_eq (take (length xs - (i + 1)) (drop (i + 1) xs)) (take (length ys - (i + 1)) (drop (i + 1) ys)) → r ≡ bytes_eq xs (set ys i v)
rest-decides xs ys i v r inside same here before rest =
    let front = (bytes_eq-Decides (take i xs) (take i ys)).0 (not-false (bytes_eq (take i xs) (take i ys)) (sym before)) in
    rest ∙ rw (take_rest xs (i + 1), take_rest ys (i + 1)) (bytes_eq-set xs ys i v inside same here front)

-- ---- the place of a list

-- ---- what a state holds

-- a step leads to a state
position-below : (lists : List (List ℕ)) (counts : List ℕ) (t : ℕ) → semiqueue_state lists counts ≡ Some t → t < length lists
position-below lists counts t e = (position-Some (λ other. bytes_eq other counts) lists t [] e).0

pub enq_step-below : (lists : List (List ℕ)) (capacity i s t : ℕ) → semiqueue_enq lists capacity i s ≡ Some t → t < length lists
enq_step-below lists capacity i s t e = chosen (nat_lt (sum (counts_at lists s)) capacity) e
  where
    chosen : (b : Bool) → cond b (semiqueue_state lists (set (counts_at lists s) i (get_or (counts_at lists s) i 0 + 1))) None ≡ Some t → t < length lists
    chosen true e = position-below lists _ t e
    chosen false e = cc

pub deq_step-below : (lists : List (List ℕ)) (i s t : ℕ) → semiqueue_deq lists i s ≡ Some t → t < length lists
deq_step-below lists i s t e = chosen (nat_le 1 (get_or (counts_at lists s) i 0)) e
  where
    chosen : (b : Bool) → cond b (semiqueue_state lists (set (counts_at lists s) i (get_or (counts_at lists s) i 0 - 1))) None ≡ Some t → t < length lists
    chosen true e = position-below lists _ t e
    chosen false e = cc

-- the place of a list among rows is the state that it is
pub state-found : {A : Type 0} (items : A → List ℕ) (rows shown : List A) (lists : List (List ℕ)) (counts : List ℕ) (r : Option ℕ) →
    map items rows ≡ lists → shown ≡ rows → r ≡ position (λ row. bytes_eq (items row) counts) shown → r ≡ semiqueue_state lists counts
state-found items rows shown lists counts r exact same e = e ∙ rw (same, ← exact) (sym (position-map (λ other. bytes_eq other counts) items rows))

-- the row at a place shows the list of that state
pub list-at : {A : Type 0} (items : A → List ℕ) (rows : List A) (lists : List (List ℕ)) (s : ℕ) (row : A) → map items rows ≡ lists → s < length lists → row ≡ get_or rows s row → items row ≡ get_or lists s []
list-at items rows lists s row exact below e =
    let inside : s < length rows = omega (arith, below, ap length exact, length-map rows items) in
    ap items e ∙ sym (get_or-map items rows s row [] inside) ∙ ap (λ ls. get_or ls s []) exact
