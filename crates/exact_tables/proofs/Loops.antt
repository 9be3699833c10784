-- How far each loop of a round has come.
use Rattle.std.proofs.Common.{◌≡◌, ◌⊎◌, ◌↔◌, ℕ, ◌+◌, ◌<◌, ◌≤◌, List, length, get_or, Some, refl, sym, ap, ◌∙◌, subst, inl, inr, arith}
use Rattle.std.specs.List.{slice_get}
use Rattle.std.proofs.lemmas.Bool.{cases_lt}
use Rattle.std.proofs.lemmas.Option.{same_Some, slice_get_within, slice_get_read}
use Rattle.type_table.specs.Table.{Table, next}
use Rattle.exact_tables.specs.Predecessors.{IsAmong, IsAmongFirst}
use Rattle.exact_tables.specs.Search.{Marked, Strikes, IsToldAtOnce, LeadsBelow, LeadsAmong}
use Rattle.exact_tables.proofs.Strikes.{strikes-none, strikes-more}

-- ---- the same pairs, said otherwise

pub strikes-inside : (n : ℕ) (P Q : ℕ → ℕ → Type 0) (a b : Marked) → Strikes n P a b → ((s t : ℕ) → P s t → Q s t) → ((s t : ℕ) → s < a.states → t < a.states → Q s t → P s t) → Strikes n Q a b
strikes-inside n P Q a b h to from = record {
  states = h.states;
  all = λ s t s_in t_in q. h.all s t s_in t_in (from s t s_in t_in q);
  kept = h.kept;
  only = λ s t s_in t_in known. elim (h.only s t s_in t_in known) [
    | inl before ↦ inl before
    | inr struck ↦ inr (record { because = to s t struck.because; at = struck.at; listed = struck.listed })
  ];
  still = h.still;
  found = h.found;
  counted = h.counted;
}

pub strikes-same : (n : ℕ) (P Q : ℕ → ℕ → Type 0) (a b : Marked) → Strikes n P a b → ((s t : ℕ) → P s t → Q s t) → ((s t : ℕ) → Q s t → P s t) → Strikes n Q a b
strikes-same n P Q a b h to from = strikes-inside n P Q a b h to (λ s t s_in t_in q. from s t q)

-- nothing is among the first none
pub among-none : (xs : List ℕ) (x : ℕ) → IsAmongFirst xs 0 x → ⊥
among-none xs x h = absurd (omega (arith, h.1))

among-more : (xs : List ℕ) (i y x : ℕ) → slice_get xs i ≡ Some y → IsAmongFirst xs (i + 1) x → IsAmongFirst xs i x ⊎ (x ≡ y)
among-more xs i y x at h =
    elim (cases_lt h.0 i) [
      | inl below ↦ inl (h.0, below, h.2)
      | inr past ↦
          let here : h.0 ≡ i = omega (arith, past, h.1) in
          inr (same_Some x y (sym h.2 ∙ ap (slice_get xs) here ∙ at))
    ]

among-kept : (xs : List ℕ) (i x : ℕ) → IsAmongFirst xs i x → IsAmongFirst xs (i + 1) x
among-kept xs i x h = (h.0, omega (arith, h.1), h.2)

among-here : (xs : List ℕ) (i y x : ℕ) → slice_get xs i ≡ Some y → x ≡ y → IsAmongFirst xs (i + 1) x
among-here xs i y x at same = (i, omega arith, rw same at)

pub among-all : (xs : List ℕ) (n x : ℕ) → length xs ≤ n → IsAmong xs x → IsAmongFirst xs n x
among-all xs n x fits h = let inside : h.0 < length xs = slice_get_within xs h.0 x h.1 in (h.0, omega (arith, inside, fits), h.1)

pub among-any : (xs : List ℕ) (n x : ℕ) → IsAmongFirst xs n x → IsAmong xs x
among-any xs n x h = (h.0, h.2)

-- ---- one more

-- of the second states
pub seconds-more : (n s t i : ℕ) (seconds : List ℕ) (a b c : Marked) → slice_get seconds i ≡ Some t → Strikes n (λ x y. (x ≡ s) × IsAmongFirst seconds i y) a b →
    Strikes n (λ x y. (x ≡ s) × (y ≡ t)) b c → Strikes n (λ x y. (x ≡ s) × IsAmongFirst seconds (i + 1) y) a c
seconds-more n s t i seconds a b c at one two = strikes-more n _ _ _ a b c one two
    (λ x y is. elim (among-more seconds i t y at is.1) [ inl before ↦ inl (is.0, before) | inr here ↦ inr (is.0, here) ])
    (λ x y is. (is.0, among-kept seconds i y is.1))
    (λ x y is. (is.0, among-here seconds i t y at is.1))

-- of the first states
pub firsts-more : (n s i : ℕ) (firsts seconds : List ℕ) (a b c : Marked) → slice_get firsts i ≡ Some s → Strikes n (λ x y. IsAmongFirst firsts i x × IsAmong seconds y) a b →
    Strikes n (λ x y. (x ≡ s) × IsAmong seconds y) b c → Strikes n (λ x y. IsAmongFirst firsts (i + 1) x × IsAmong seconds y) a c
firsts-more n s i firsts seconds a b c at one two = strikes-more n _ _ _ a b c one two
    (λ x y is. elim (among-more firsts i s x at is.0) [ inl before ↦ inl (before, is.1) | inr here ↦ inr (here, is.1) ])
    (λ x y is. (among-kept firsts i x is.0, is.1))
    (λ x y is. (among-here firsts i s x at is.0, is.1))

-- of the operations
leads-kept : (T : Table) (s t k x y : ℕ) → LeadsBelow T s t k x y → LeadsBelow T s t (k + 1) x y
leads-kept T s t k x y h = record { op = h.op; below = omega (arith, h.below); first = h.first; second = h.second }

pub leads-more : (T : Table) (n s t k : ℕ) (xs ys : List ℕ) (a b c : Marked) → ((x : ℕ) → IsAmong xs x ↔ (next T x k ≡ Some s)) → ((y : ℕ) → IsAmong ys y ↔ (next T y k ≡ Some t)) →
    Strikes n (LeadsBelow T s t k) a b → Strikes n (λ x y. IsAmong xs x × IsAmong ys y) b c → Strikes n (LeadsBelow T s t (k + 1)) a c
leads-more T n s t k xs ys a b c firsts seconds one two = strikes-more n _ _ (LeadsBelow T s t (k + 1)) a b c one two
    (λ x y is. elim (cases_lt is.op k) [
      | inl below ↦ inl (record { op = is.op; below = below; first = is.first; second = is.second })
      | inr past ↦
          let here : is.op ≡ k = omega (arith, past, is.below) in
          inr ((firsts x).1 (ap (next T x) (sym here) ∙ is.first), (seconds y).1 (ap (next T y) (sym here) ∙ is.second))
    ])
    (λ x y is. leads-kept T s t k x y is)
    (λ x y is. record { op = k; below = omega arith; first = (firsts x).0 is.0; second = (seconds y).0 is.1 })

-- of the pairs of the round before
pub pairs-more : (T : Table) (n s t i : ℕ) (pairs : List (ℕ × ℕ)) (a b c : Marked) → slice_get pairs i ≡ Some (s, t) →
    Strikes n (LeadsAmong T pairs i) a b → Strikes n (LeadsBelow T s t (length T.ops)) b c → Strikes n (LeadsAmong T pairs (i + 1)) a c
pairs-more T n s t i pairs a b c at one two = strikes-more n _ _ (LeadsAmong T pairs (i + 1)) a b c one two
    (λ x y is. elim (cases_lt is.place i) [
      | inl below ↦ inl (record { place = is.place; below = below; after_s = is.after_s; after_t = is.after_t; is = is.is; leads = is.leads })
      | inr past ↦
          let here : is.place ≡ i = omega (arith, past, is.below) in
          inr (subst (λ (p : ℕ × ℕ). LeadsBelow T p.0 p.1 (length T.ops) x y) (same_Some {A = ℕ × ℕ} (is.after_s, is.after_t) (s, t) (sym is.is ∙ ap (slice_get pairs) here ∙ at)) is.leads)
    ])
    (λ x y is. record { place = is.place; below = omega (arith, is.below); after_s = is.after_s; after_t = is.after_t; is = is.is; leads = is.leads })
    (λ x y is. record { place = i; below = omega arith; after_s = s; after_t = t; is = at; leads = is })

-- none of them yet
pub pairs-none : (T : Table) (n : ℕ) (pairs : List (ℕ × ℕ)) (m : Marked) → Strikes n (LeadsAmong T pairs 0) m m
pairs-none T n pairs m = strikes-none n (LeadsAmong T pairs 0) m (λ s t s_in t_in is. absurd (omega (arith, is.below)))

pub leads-none : (T : Table) (n s t : ℕ) (m : Marked) → Strikes n (LeadsBelow T s t 0) m m
leads-none T n s t m = strikes-none n (LeadsBelow T s t 0) m (λ x y x_in y_in is. absurd (omega (arith, is.below)))

-- all operations, and all pairs
pub leads-all : (T : Table) (n s t k : ℕ) (a b : Marked) → k ≡ length T.ops → Strikes n (LeadsBelow T s t k) a b → Strikes n (LeadsBelow T s t (length T.ops)) a b
leads-all T n s t k a b end h = subst (λ j. Strikes n (LeadsBelow T s t j) a b) end h

pub pairs-all : (T : Table) (n i : ℕ) (pairs : List (ℕ × ℕ)) (a b : Marked) → i ≡ length pairs → Strikes n (LeadsAmong T pairs i) a b → Strikes n (LeadsAmong T pairs (length pairs)) a b
pairs-all T n i pairs a b end h = subst (λ j. Strikes n (LeadsAmong T pairs j) a b) end h

-- ---- the first round

-- one more second state, that is distinguished at once
pub told-more : (T : Table) (s t : ℕ) (a b c : Marked) → IsToldAtOnce T s t → Strikes 1 (λ x y. (x ≡ s) × (y < t) × IsToldAtOnce T x y) a b →
    Strikes 1 (λ x y. (x ≡ s) × (y ≡ t)) b c → Strikes 1 (λ x y. (x ≡ s) × (y < t + 1) × IsToldAtOnce T x y) a c
told-more T s t a b c told one two = strikes-more 1 _ _ _ a b c one two
    (λ x y is. elim (cases_lt y t) [
      | inl below ↦ inl (is.0, below, is.2)
      | inr past ↦ inr (is.0, omega (arith, past, is.1))
    ])
    (λ x y is. (is.0, omega (arith, is.1), is.2))
    (λ x y is. (is.0, omega (arith, is.1), subst (λ y2. IsToldAtOnce T x y2) (sym is.1) (subst (λ x2. IsToldAtOnce T x2 t) (sym is.0) told)))

-- or that isn't
pub told-less : (T : Table) (s t : ℕ) (a b : Marked) → (IsToldAtOnce T s t → ⊥) → Strikes 1 (λ x y. (x ≡ s) × (y < t) × IsToldAtOnce T x y) a b →
    Strikes 1 (λ x y. (x ≡ s) × (y < t + 1) × IsToldAtOnce T x y) a b
told-less T s t a b alike one = strikes-same 1 _ _ a b one
    (λ x y is. (is.0, omega (arith, is.1), is.2))
    (λ x y is. elim (cases_lt y t) [
      | inl below ↦ (is.0, below, is.2)
      | inr past ↦
          let here : y ≡ t = omega (arith, past, is.1) in
          absurd (alike (subst (λ y2. IsToldAtOnce T s y2) here (subst (λ x2. IsToldAtOnce T x2 y) is.0 is.2)))
    ])

-- one more first state
pub told_of-more : (T : Table) (s : ℕ) (a b c : Marked) → Strikes 1 (λ x y. (x < s) × IsToldAtOnce T x y) a b →
    Strikes 1 (λ x y. (x ≡ s) × IsToldAtOnce T x y) b c → Strikes 1 (λ x y. (x < s + 1) × IsToldAtOnce T x y) a c
told_of-more T s a b c one two = strikes-more 1 _ _ _ a b c one two
    (λ x y is. elim (cases_lt x s) [
      | inl below ↦ inl (below, is.1)
      | inr past ↦ inr (omega (arith, past, is.0), is.1)
    ])
    (λ x y is. (omega (arith, is.0), is.1))
    (λ x y is. (omega (arith, is.0), is.1))

-- ---- reading a pair

pub pair-read : (pairs found : List (ℕ × ℕ)) (i : ℕ) (p : ℕ × ℕ) → pairs ≡ found → i < length pairs → p ≡ get_or pairs i p → slice_get found i ≡ Some (p.0, p.1)
pair-read pairs found i p same inside read = ap (λ (l : List (ℕ × ℕ)). slice_get l i) (sym same) ∙ slice_get_read pairs (length pairs) i p refl inside read
