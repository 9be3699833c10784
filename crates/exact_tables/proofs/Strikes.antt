-- Pairs that are given numbers: none, one, and one set of pairs after another.
use Rattle.std.proofs.Common.{◌≡◌, ◌⊎◌, ℕ, ◌+◌, ◌*◌, ◌<◌, ◌==◌, cond, List, [], ◌∷◌, ◌++◌, length, set, get_or, refl, sym, ap, ◌∙◌, subst, inl, inr, arith}
use Rattle.std.proofs.lemmas.Bool.{cases_eq, eq-eqb, ne_eqb}
use Rattle.std.proofs.lemmas.List.{get_or-set_same, get_or-set_other, length_push}
use Rattle.std.proofs.lemmas.List.Sums.{sum_by-set}
use Rattle.std.proofs.lemmas.Nat.{mul-add-lt, same_from_place}
use Rattle.type_table.proofs.Elements.{found-front, found-last, cases-more}
use Rattle.exact_tables.specs.Search.{Marked, pair_number, HasPairNumber, Strikes}

-- ---- none

-- nothing changes where no pair is meant that has no number
pub strikes-none : (n : ℕ) (P : ℕ → ℕ → Type 0) (m : Marked) → ((s t : ℕ) → s < m.states → t < m.states → P s t → 0 < pair_number m s t) → Strikes n P m m
strikes-none n P m known = record {
  states = refl;
  all = known;
  kept = λ s t s_in t_in before. refl;
  only = λ s t s_in t_in before. inl before;
  still = λ s t there. there;
  found = λ s t there. inl there;
  counted = refl;
}

-- ---- one set of pairs after another

-- what is found or has a number stays so
known-after : (n : ℕ) (P : ℕ → ℕ → Type 0) (old new : Marked) (s t : ℕ) → Strikes n P old new → HasPairNumber old s t → HasPairNumber new s t
known-after n P old new s t strikes was =
    let same : pair_number new s t ≡ pair_number old s t = strikes.kept s t was.first was.second was.known in
    record { first = omega (arith, was.first, strikes.states); second = omega (arith, was.second, strikes.states); known = omega (arith, same, was.known) }

pub strikes-more : (n : ℕ) (P Q R : ℕ → ℕ → Type 0) (a b c : Marked) → Strikes n P a b → Strikes n Q b c →
    ((s t : ℕ) → R s t → P s t ⊎ Q s t) → ((s t : ℕ) → P s t → R s t) → ((s t : ℕ) → Q s t → R s t) → Strikes n R a c
strikes-more n P Q R a b c one two parts first second = record {
  states = two.states ∙ one.states;
  all = λ s t s_in t_in is. elim (parts s t is) [
    | inl p ↦
        let known : 0 < pair_number b s t = one.all s t s_in t_in p in
        let same : pair_number c s t ≡ pair_number b s t = two.kept s t (inside s s_in) (inside t t_in) known in
        omega (arith, known, same)
    | inr q ↦ two.all s t (inside s s_in) (inside t t_in) q
  ];
  kept = λ s t s_in t_in known.
      let same : pair_number b s t ≡ pair_number a s t = one.kept s t s_in t_in known in
      let still : 0 < pair_number b s t = omega (arith, same, known) in
      two.kept s t (inside s s_in) (inside t t_in) still ∙ same;
  only = λ s t s_in t_in known. elim (two.only s t (inside s s_in) (inside t t_in) known) [
    | inl before ↦ elim (one.only s t s_in t_in before) [
      | inl first_known ↦ inl first_known
      | inr struck ↦ inr (record { because = first s t struck.because; at = two.kept s t (inside s s_in) (inside t t_in) before ∙ struck.at; listed = two.still s t struck.listed })
    ]
    | inr struck ↦ inr (record { because = second s t struck.because; at = struck.at; listed = struck.listed })
  ];
  still = λ s t there. two.still s t (one.still s t there);
  found = λ s t there. elim (two.found s t there) [
    | inl before ↦ elim (one.found s t before) [
      | inl at_first ↦ inl at_first
      | inr known ↦ inr (known-after n Q b c s t two known)
    ]
    | inr known ↦ inr known
  ];
  counted = two.counted ∙ one.counted;
}
  where
    inside : (s : ℕ) → s < a.states → s < b.states
    inside s s_in = omega (arith, s_in, one.states)

-- ---- one

-- a pair with no number is given n
abbrev pub struck : ℕ → ℕ → ℕ → Marked → Marked
struck n s t m = record { states = m.states; cells = set m.cells (s * m.states + t) n; found = m.found ++ (s, t) ∷ [] }

-- two pairs are one or not
pub same_pair : (a b s t : ℕ) → ((a ≡ s) × (b ≡ t)) ⊎ ((a ≡ s) × (b ≡ t) → ⊥)
same_pair a b s t =
    elim (cases_eq a s) [
      | inl first ↦ elim (cases_eq b t) [
        | inl second ↦ inl (first, second)
        | inr other ↦ inr (λ both. other both.1)
      ]
      | inr other ↦ inr (λ both. other both.0)
    ]

pub strikes-one : (n s t : ℕ) (m : Marked) → 0 < n → s < m.states → t < m.states → length m.cells ≡ m.states * m.states → pair_number m s t ≡ 0 → Strikes n (λ a b. (a ≡ s) × (b ≡ t)) m (struck n s t m)
strikes-one n s t m some s_in t_in whole none = record {
  states = refl;
  all = λ a b a_in b_in both. let at : pair_number (struck n s t m) a b ≡ n = here a b both.0 both.1 in omega (arith, at, some);
  kept = λ a b a_in b_in known. elsewhere a b b_in (λ both. let same : pair_number m a b ≡ 0 = rw (both.0, both.1) none in omega (arith, same, known));
  only = λ a b a_in b_in known. elim (same_pair a b s t) [
    | inl both ↦ inr (record { because = both; at = here a b both.0 both.1; listed = (length m.found, rw (both.0, both.1) (found-last m.found (s, t))) })
    | inr other ↦ let same : pair_number (struck n s t m) a b ≡ pair_number m a b = elsewhere a b b_in other in inl (omega (arith, same, known))
  ];
  still = λ a b there. (there.0, found-front m.found ((s, t) ∷ []) there.0 (a, b) there.1);
  found = λ a b there. elim (cases-more m.found (s, t) there.0 (a, b) there.1) [
    | inl before ↦ inl (there.0, before)
    | inr new ↦
        let first : a ≡ s = ap (λ (p : ℕ × ℕ). p.0) (sym new.1) in
        let second : b ≡ t = ap (λ (p : ℕ × ℕ). p.1) (sym new.1) in
        let at : pair_number (struck n s t m) a b ≡ n = here a b first second in
        inr (record { first = omega (arith, first, s_in); second = omega (arith, second, t_in); known = omega (arith, at, some) })
  ];
  counted =
      let fewer = sum_by-set (λ (x : ℕ). cond (x == 0) 1 0) m.cells (s * m.states + t) n 0 fits in
      let was : ◌≡◌ {A = ℕ} (cond (get_or m.cells (s * m.states + t) 0 == 0) 1 0) 1 = rw (eq-eqb _ 0 none) refl in
      let is : ◌≡◌ {A = ℕ} (cond (n == 0) 1 0) 0 = rw (ne_eqb n 0 (λ e. omega (arith, e, some))) refl in
      omega (arith, fewer, was, is, length_push m.found (s, t));
}
  where
    fits : s * m.states + t < length m.cells
    fits = omega (arith, whole, mul-add-lt s m.states t m.states s_in t_in)

    here : (a b : ℕ) → a ≡ s → b ≡ t → pair_number (struck n s t m) a b ≡ n
    here a b first second = rw (first, second) (get_or-set_same m.cells (s * m.states + t) n 0 fits)

    elsewhere : (a b : ℕ) → b < m.states → ((a ≡ s) × (b ≡ t) → ⊥) → pair_number (struck n s t m) a b ≡ pair_number m a b
    elsewhere a b b_in other = get_or-set_other m.cells (s * m.states + t) (a * m.states + b) n 0 (λ e. other (same_from_place a b s t m.states b_in t_in e))

-- the same of what is shown
pub strikes-shown : (n s t states : ℕ) (cells : List ℕ) (found more : List (ℕ × ℕ)) (old : Marked) → ◌≡◌ {A = Marked} (record { states = states; cells = cells; found = found }) old → more ≡ found ++ (s, t) ∷ [] →
    0 < n → s < old.states → t < old.states → length cells ≡ states * states → get_or cells (s * states + t) 0 ≡ 0 →
    Strikes n (λ a b. (a ≡ s) × (b ≡ t)) old (record { states = states; cells = set cells (s * states + t) n; found = more })
strikes-shown n s t states cells found more old shown pushed some s_in t_in whole none =
    let m : Marked = record { states = states; cells = cells; found = found } in
    let new : Marked = record { states = states; cells = set cells (s * states + t) n; found = more } in
    let same : states ≡ old.states = ap (λ (a : Marked). a.states) shown in
    subst (λ (a : Marked). Strikes n (λ a b. (a ≡ s) × (b ≡ t)) a new) shown
    (subst (λ (pairs : List (ℕ × ℕ)). Strikes n (λ a b. (a ≡ s) × (b ≡ t)) m (record { states = states; cells = set cells (s * states + t) n; found = pairs })) (sym pushed)
    (strikes-one n s t m some (omega (arith, s_in, same)) (omega (arith, t_in, same)) whole none))
