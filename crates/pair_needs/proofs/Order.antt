-- Lists in the order in which a search finds them: shorter ones first, and of two as long the first in ascending order.
use Rattle.std.proofs.Common.{◌≡◌, ◌⊎◌, ℕ, suc, ◌+◌, ◌<◌, ◌≤◌, ◌==◌, ◌&&◌, ◌||◌, Bool, true, false, ltb, List, [], ◌∷◌, ◌++◌, length, get_or, drop, drop-cons, add-one, refl, sym, ap, ◌∙◌, inl, inr, arith}
use Rattle.std.proofs.lemmas.Bool.{false≢true, ltb-true, lt-ltb, le-ltb, eqb-true, eq-eqb, ne_eqb, or_cases, or_left, or_right, and_parts, and_from, cases_order, false_from_ne_true}
use Rattle.std.proofs.lemmas.List.{length-append, append-nil, drop_all}
use Rattle.exact_tables.specs.Tell.{comes_before}
use Rattle.pair_needs.specs.Search.{IsSooner, IsNoLater}

-- ---- ascending order

abbrev Earlier : List ℕ → List ℕ → Type 0
Earlier v [] = ⊥
Earlier [] (l ∷ w) = Unit {0}
Earlier (k ∷ v) (l ∷ w) = (k < l) ⊎ ((k ≡ l) × Earlier v w)

earlier_from : (v w : List ℕ) → comes_before v w ≡ true → Earlier v w
earlier_from v [] h = absurd (false≢true h)
earlier_from [] (l ∷ w) h = tt
earlier_from (k ∷ v) (l ∷ w) h =
    elim (or_cases (ltb k l) (k == l && comes_before v w) h) [
      | inl low ↦ inl (ltb-true k l low)
      | inr same ↦
          let both = and_parts (k == l) (comes_before v w) same in
          inr (eqb-true k l both.0, earlier_from v w both.1)
    ]

earlier_to : (v w : List ℕ) → Earlier v w → comes_before v w ≡ true
earlier_to v [] h = absurd h
earlier_to [] (l ∷ w) h = refl
earlier_to (k ∷ v) (l ∷ w) h =
    elim h [
      | inl low ↦ or_left (ltb k l) _ (lt-ltb k l low)
      | inr same ↦ or_right (ltb k l) _ (and_from (k == l) _ (eq-eqb k l same.0) (earlier_to v w same.1))
    ]

earlier_trans : (u v w : List ℕ) → Earlier u v → Earlier v w → Earlier u w
earlier_trans u v [] first second = absurd second
earlier_trans u [] (l ∷ w) first second = absurd first
earlier_trans [] (k ∷ v) (l ∷ w) first second = tt
earlier_trans (j ∷ u) (k ∷ v) (l ∷ w) first second =
    elim first [
      | inl low ↦ elim second [
        | inl below ↦ inl (omega (arith, low, below))
        | inr same ↦ inl (omega (arith, low, same.0))
      ]
      | inr like ↦ elim second [
        | inl below ↦ inl (omega (arith, like.0, below))
        | inr same ↦ inr (like.0 ∙ same.0, earlier_trans u v w like.1 same.1)
      ]
    ]

earlier_never : (v : List ℕ) → Earlier v v → ⊥
earlier_never [] h = h
earlier_never (k ∷ v) h =
    elim h [
      | inl low ↦ omega (arith, low)
      | inr same ↦ earlier_never v same.1
    ]

earlier_cases : (v w : List ℕ) → length v ≡ length w → (v ≡ w) ⊎ (Earlier v w ⊎ Earlier w v)
earlier_cases [] [] long = inl refl
earlier_cases [] (l ∷ w) long = absurd (omega (arith, long))
earlier_cases (k ∷ v) [] long = absurd (omega (arith, long))
earlier_cases (k ∷ v) (l ∷ w) long =
    elim (cases_order k l) [
      | inl same ↦ elim (earlier_cases v w (omega (arith, long))) [
        | inl rest ↦ inl (ap (λ (j : ℕ). j ∷ v) same ∙ ap (λ (r : List ℕ). l ∷ r) rest)
        | inr other ↦ elim other [
          | inl first ↦ inr (inl (inr (same, first)))
          | inr second ↦ inr (inr (inr (sym same, second)))
        ]
      ]
      | inr other ↦ elim other [
        | inl low ↦ inr (inl (inl low))
        | inr high ↦ inr (inr (inl high))
      ]
    ]

-- with an operation after each
earlier_more : (v w : List ℕ) (j k : ℕ) → length v ≡ length w → Earlier v w → Earlier (v ++ j ∷ []) (w ++ k ∷ [])
earlier_more v [] j k long h = absurd h
earlier_more [] (l ∷ w) j k long h = absurd (omega (arith, long))
earlier_more (a ∷ v) (b ∷ w) j k long h =
    elim h [
      | inl low ↦ inl low
      | inr same ↦ inr (same.0, earlier_more v w j k (omega (arith, long)) same.1)
    ]

earlier_last : (w : List ℕ) (j k : ℕ) → j < k → Earlier (w ++ j ∷ []) (w ++ k ∷ [])
earlier_last [] j k low = inl low
earlier_last (a ∷ w) j k low = inr (refl, earlier_last w j k low)

earlier_front : (v w : List ℕ) (j k : ℕ) → length v ≡ length w → Earlier (v ++ j ∷ []) (w ++ k ∷ []) → Earlier v w ⊎ ((v ≡ w) × (j < k))
earlier_front [] [] j k long h =
    elim h [
      | inl low ↦ inr (refl, low)
      | inr same ↦ absurd same.1
    ]
earlier_front [] (l ∷ w) j k long h = absurd (omega (arith, long))
earlier_front (a ∷ v) [] j k long h = absurd (omega (arith, long))
earlier_front (a ∷ v) (b ∷ w) j k long h =
    elim h [
      | inl low ↦ inl (inl low)
      | inr same ↦ elim (earlier_front v w j k (omega (arith, long)) same.1) [
        | inl first ↦ inl (inr (same.0, first))
        | inr last ↦ inr (ap (λ (i : ℕ). i ∷ v) same.0 ∙ ap (λ (r : List ℕ). b ∷ r) last.0, last.1)
      ]
    ]

pub before_trans : (u v w : List ℕ) → comes_before u v ≡ true → comes_before v w ≡ true → comes_before u w ≡ true
before_trans u v w first second = earlier_to u w (earlier_trans u v w (earlier_from u v first) (earlier_from v w second))

pub before_cases : (v w : List ℕ) → length v ≡ length w → (v ≡ w) ⊎ ((comes_before v w ≡ true) ⊎ (comes_before w v ≡ true))
before_cases v w long =
    elim (earlier_cases v w long) [
      | inl same ↦ inl same
      | inr other ↦ elim other [
        | inl first ↦ inr (inl (earlier_to v w first))
        | inr second ↦ inr (inr (earlier_to w v second))
      ]
    ]

-- ---- by length first

-- a list with an operation after it is longer by one
pub length-more : (v : List ℕ) (k : ℕ) → length (v ++ k ∷ []) ≡ length v + 1
length-more v k = length-append v (k ∷ [])

pub sooner_trans : (u v w : List ℕ) → IsSooner u v → IsSooner v w → IsSooner u w
sooner_trans u v w first second =
    elim first [
      | inl low ↦ elim second [
        | inl below ↦ inl (omega (arith, low, below))
        | inr same ↦ inl (omega (arith, low, same.0))
      ]
      | inr like ↦ elim second [
        | inl below ↦ inl (omega (arith, like.0, below))
        | inr same ↦ inr (like.0 ∙ same.0, earlier_to u w (earlier_trans u v w (earlier_from u v like.1) (earlier_from v w same.1)))
      ]
    ]

pub no_later_sooner : (u v w : List ℕ) → IsNoLater u v → IsSooner v w → IsSooner u w
no_later_sooner u v w first second =
    elim first [
      | inl same ↦ rw same second
      | inr sooner ↦ sooner_trans u v w sooner second
    ]

pub sooner_never : (v : List ℕ) → IsSooner v v → ⊥
sooner_never v h =
    elim h [
      | inl low ↦ omega (arith, low)
      | inr same ↦ earlier_never v (earlier_from v v same.1)
    ]

pub sooner_cases : (v w : List ℕ) → (v ≡ w) ⊎ (IsSooner v w ⊎ IsSooner w v)
sooner_cases v w =
    elim (cases_order (length v) (length w)) [
      | inl long ↦ elim (earlier_cases v w long) [
        | inl same ↦ inl same
        | inr other ↦ elim other [
          | inl first ↦ inr (inl (inr (long, earlier_to v w first)))
          | inr second ↦ inr (inr (inr (sym long, earlier_to w v second)))
        ]
      ]
      | inr other ↦ elim other [
        | inl low ↦ inr (inl (inl low))
        | inr high ↦ inr (inr (inl high))
      ]
    ]

pub sooner_more : (v w : List ℕ) (j k : ℕ) → IsSooner v w → IsSooner (v ++ j ∷ []) (w ++ k ∷ [])
sooner_more v w j k h =
    let first = length-more v j in
    let second = length-more w k in
    elim h [
      | inl low ↦ inl (omega (arith, low, first, second))
      | inr same ↦ inr (omega (arith, same.0, first, second), earlier_to (v ++ j ∷ []) (w ++ k ∷ []) (earlier_more v w j k same.0 (earlier_from v w same.1)))
    ]

pub sooner_last : (w : List ℕ) (j k : ℕ) → j < k → IsSooner (w ++ j ∷ []) (w ++ k ∷ [])
sooner_last w j k low = inr (length-more w j ∙ sym (length-more w k), earlier_to (w ++ j ∷ []) (w ++ k ∷ []) (earlier_last w j k low))

-- where one with an operation after it comes sooner, so does the list without it, or it is the same with a smaller operation
pub sooner_front : (v w : List ℕ) (j k : ℕ) → IsSooner (v ++ j ∷ []) (w ++ k ∷ []) → IsSooner v w ⊎ ((v ≡ w) × (j < k))
sooner_front v w j k h =
    let first = length-more v j in
    let second = length-more w k in
    elim h [
      | inl low ↦ inl (inl (omega (arith, low, first, second)))
      | inr same ↦
          let long : length v ≡ length w = omega (arith, same.0, first, second) in
          elim (earlier_front v w j k long (earlier_from (v ++ j ∷ []) (w ++ k ∷ []) same.1)) [
            | inl earlier ↦ inl (inr (long, earlier_to v w earlier))
            | inr last ↦ inr last
          ]
    ]

-- the front of a list that comes sooner
pub sooner_part : (v r w : List ℕ) → IsSooner (v ++ r) w → IsSooner v w
sooner_part v [] w h = rw (append-nil v) at h
sooner_part v (k ∷ r) w h =
    let long = length-append v (k ∷ r) in
    inl (elim h [
      | inl low ↦ omega (arith, low, long)
      | inr same ↦ omega (arith, same.0, long)
    ])

pub empty_first : (v : List ℕ) (k : ℕ) → IsSooner [] (v ++ k ∷ [])
empty_first v k = let long = length-more v k in inl (omega (arith, long))

pub empty_no_later : (v : List ℕ) → IsNoLater [] v
empty_no_later [] = inl refl
empty_no_later (k ∷ v) = inr (inl (omega arith))

-- ---- what it says

pub no_later_shorter : (v w : List ℕ) → IsNoLater v w → length v ≤ length w
no_later_shorter v w h =
    elim h [
      | inl same ↦ let long : length v ≡ length w = ap (λ (r : List ℕ). length r) same in omega (arith, long)
      | inr sooner ↦ elim sooner [
        | inl low ↦ omega (arith, low)
        | inr like ↦ omega (arith, like.0)
      ]
    ]

pub no_later_first : (v w : List ℕ) → IsNoLater v w → length w ≡ length v → comes_before w v ≡ false
no_later_first v w h long = false_from_ne_true (comes_before w v) (λ before.
    let sooner : IsSooner w v = inr (long, before) in
    sooner_never v (no_later_sooner v w v h sooner))

-- ---- element by element

-- the lists have the same operation in front
pub before-same : (a b : ℕ) (v w : List ℕ) → a ≡ b → comes_before (a ∷ v) (b ∷ w) ≡ comes_before v w
before-same a b v w same = rw (same, le-ltb b b (omega arith), eq-eqb b b refl) refl

-- they have different ones
pub before-apart : (a b : ℕ) (v w : List ℕ) → (a ≡ b → ⊥) → comes_before (a ∷ v) (b ∷ w) ≡ ltb a b
before-apart a b v w other = rw (ne_eqb a b other) (or_false (ltb a b))
  where
    or_false : (x : Bool) → (x || false) ≡ x
    or_false true = refl
    or_false false = refl

-- ---- from a place on

-- the first list ends there
pub before-past : (v w : List ℕ) (i : ℕ) → length v ≤ i → i < length w → comes_before (drop i v) (drop i w) ≡ true
before-past v w i past low = rw (drop_all i v past, drop-cons w i 0 low) refl

-- the second does
pub before-end : (v w : List ℕ) (i : ℕ) → length w ≤ i → comes_before (drop i v) (drop i w) ≡ false
before-end v w i past = rw (drop_all i w past) refl

-- they have the same operation there
pub before-on : (v w : List ℕ) (i : ℕ) → i < length v → i < length w → get_or v i 0 ≡ get_or w i 0 → comes_before (drop i v) (drop i w) ≡ comes_before (drop (i + 1) v) (drop (i + 1) w)
before-on v w i in_v in_w same = rw (add-one, drop-cons v i 0 in_v, drop-cons w i 0 in_w) (before-same (get_or v i 0) (get_or w i 0) (drop (suc i) v) (drop (suc i) w) same)

-- they have different ones there
pub before-here : (v w : List ℕ) (i : ℕ) → i < length v → i < length w → (get_or v i 0 ≡ get_or w i 0 → ⊥) → comes_before (drop i v) (drop i w) ≡ ltb (get_or v i 0) (get_or w i 0)
before-here v w i in_v in_w other = rw (drop-cons v i 0 in_v, drop-cons w i 0 in_w) (before-apart (get_or v i 0) (get_or w i 0) (drop (suc i) v) (drop (suc i) w) other)
