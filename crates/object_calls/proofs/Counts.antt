-- How often each place is among some, and what is left of it once the place was visited.
use Rattle.std.proofs.Common.{All, ◌≡◌, ℕ, ◌+◌, ◌<◌, ◌≤◌, Bool, true, false, not, cond, ◌==◌, List, [], ◌∷◌, length, take, set, get_or, filter, Some, refl, sym, ap, subst, ◌∙◌, inl, inr, length-take, get_or-set_same, get_or-set_other, arith}
use Rattle.std.specs.Prelude.{slice_get}
use Rattle.std.specs.List.{list_any}
use Rattle.std.proofs.lemmas.Bool.{cases_Bool, cases_eq, false≢true, or_left, eq-eqb, ne_eqb}
use Rattle.std.proofs.lemmas.List.{take_all, get_or_default}
use Rattle.std.proofs.lemmas.List.Filters.{length-filter_both, length-filter_more}
use Rattle.std.proofs.lemmas.Option.{slice_get-get_or, get_or_from_slice_get}
use Rattle.object_calls.specs.Ends.{is_at, times_in}
use Rattle.object_calls.proofs.Places.{next_is_at, visited_with, visited_now, visited_cases}

-- ---- counting

-- no more than there are places
pub count_at-bound : (x : ℕ) (places : List ℕ) → times_in x places ≤ length places
count_at-bound x places = omega (arith, length-filter_both (λ y. y == x) (λ y. not (y == x)) (λ y. refl) places)

-- what is among them is counted
some_counted : (test : ℕ → Bool) (xs : List ℕ) → list_any test xs ≡ true → 0 < length (filter test xs)
some_counted test [] some = absurd (false≢true some)
some_counted test (x ∷ xs) some =
    elim (cases_Bool (test x)) [
      | inl passes ↦ rw passes (omega arith)
      | inr fails ↦ rw fails (some_counted test xs (rw fails at some))
    ]

-- and what isn't, isn't
none_counted : (test : ℕ → Bool) (xs : List ℕ) → list_any test xs ≡ false → length (filter test xs) ≡ 0
none_counted test [] none = refl
none_counted test (x ∷ xs) none =
    elim (cases_Bool (test x)) [
      | inl passes ↦ absurd (false≢true (sym none ∙ or_left (test x) (list_any test xs) passes))
      | inr fails ↦ rw fails (none_counted test xs (rw fails at none))
    ]

module _ (n : ℕ) (places counts : List ℕ) (i : ℕ) (i_in : i < length places) (h : (x : ℕ) → x < n → get_or counts x 0 ≡ times_in x (take i places)) where
  -- one place more is counted
  pub counts_more : get_or places i 0 < length counts → (x : ℕ) → x < n → get_or (set counts (get_or places i 0) (get_or counts (get_or places i 0) 0 + 1)) x 0 ≡ times_in x (take (i + 1) places)
  counts_more y_in x low =
      let y : ℕ = get_or places i 0 in
      let one : times_in x (take (i + 1) places) ≡ times_in x (take i places) + cond (y == x) 1 0 = length-filter_more (λ z. z == x) places i 0 i_in in
      let was : get_or counts x 0 ≡ times_in x (take i places) = h x low in
      elim (cases_eq x y) [
        | inl same ↦
            let here : times_in x (take (i + 1) places) ≡ times_in x (take i places) + 1 = one ∙ ap (λ b. times_in x (take i places) + cond b 1 0) (eq-eqb y x (sym same)) in
            let written : get_or (set counts y (get_or counts y 0 + 1)) y 0 ≡ get_or counts y 0 + 1 = get_or-set_same counts y (get_or counts y 0 + 1) 0 y_in in
            ap (λ z. get_or (set counts y (get_or counts y 0 + 1)) z 0) same ∙ written ∙ ap (λ z. get_or counts z 0 + 1) (sym same) ∙ ap (λ n. n + 1) was ∙ sym here
        | inr other ↦
            let none : times_in x (take (i + 1) places) ≡ times_in x (take i places) + 0 = one ∙ ap (λ b. times_in x (take i places) + cond b 1 0) (ne_eqb y x (λ same. other (sym same))) in
            let left : get_or (set counts y (get_or counts y 0 + 1)) x 0 ≡ get_or counts x 0 = get_or-set_other counts y x (get_or counts y 0 + 1) 0 other in
            omega (arith, none, left, was)
      ]

  -- and its count isn't more than the places so far
  pub counts_fit : (x : ℕ) → x < n → get_or counts x 0 ≤ i
  counts_fit x low = omega (arith, h x low, count_at-bound x (take i places), length-take i places)

-- all are counted
pub counts_all : (n : ℕ) (places counts : List ℕ) → length counts ≡ n → ((x : ℕ) → x < n → get_or counts x 0 ≡ times_in x (take (length places) places)) → (x : ℕ) → x < n → slice_get counts x ≡ Some (times_in x places)
counts_all n places counts long h x low =
    slice_get-get_or counts x 0 (omega (arith, long, low)) ∙ ap Some (h x low ∙ ap (times_in x) (take_all (length places) places (omega arith)))

-- ---- visits

-- of a place that was visited nothing is left, of another its whole count
pub record AreLeft (n : ℕ) (places : List ℕ) (i : ℕ) (counts : List ℕ) : Type 0 where
  pub visited : (x : ℕ) → x < n → is_at (take i places) x → get_or counts x 0 ≡ 0
  pub others : (x : ℕ) → x < n → (is_at (take i places) x → ⊥) → get_or counts x 0 ≡ times_in x places

pub left_whole : (n : ℕ) (places counts : List ℕ) → ((x : ℕ) → x < n → slice_get counts x ≡ Some (times_in x places)) → AreLeft n places 0 counts
left_whole n places counts whole = record { visited = λ x low at. absurd (false≢true at); others = λ x low isnt. get_or_from_slice_get counts x (times_in x places) 0 (whole x low) }

module _ (n : ℕ) (places : List ℕ) (i : ℕ) (i_in : i < length places) (counts : List ℕ) (h : AreLeft n places i counts) (y_low : get_or places i 0 < n) where
  -- where something is left it is the first visit
  pub first_count : 0 < get_or counts (get_or places i 0) 0 → is_at (take i places) (get_or places i 0) → ⊥
  first_count some at = omega (arith, some, h.visited (get_or places i 0) y_low at)

  -- where nothing is, it isn't
  pub later_count : get_or counts (get_or places i 0) 0 ≡ 0 → is_at (take i places) (get_or places i 0)
  later_count none =
      let y : ℕ = get_or places i 0 in
      elim (cases_Bool (list_any (λ z. z == y) (take i places))) [
        | inl at ↦ at
        | inr isnt ↦
            let whole : get_or counts y 0 ≡ times_in y places = h.others y y_low (λ at. false≢true (sym isnt ∙ at)) in
            let some : 0 < times_in y places = some_counted (λ z. z == y) places (next_is_at places i i_in) in
            absurd (omega (arith, none, whole, some))
      ]

  pub left_again : is_at (take i places) (get_or places i 0) → AreLeft n places (i + 1) counts
  left_again before =
      record {
        visited = λ x low at.
            h.visited x low
            (elim (visited_cases places i i_in x at) [
              | inl early ↦ early
              | inr same ↦ subst (λ z. is_at (take i places) z) same before
            ]);
        others = λ x low isnt. h.others x low (λ at. isnt (visited_with places i i_in x at));
      }

  pub left_now : get_or places i 0 < length counts → AreLeft n places (i + 1) (set counts (get_or places i 0) 0)
  left_now y_in =
      let y : ℕ = get_or places i 0 in
      record {
        visited = λ x low at.
            elim (cases_eq x y) [
              | inl same ↦ ap (λ z. get_or (set counts y 0) z 0) same ∙ get_or-set_same counts y 0 0 y_in
              | inr other ↦
                  elim (visited_cases places i i_in x at) [
                    | inl early ↦ get_or-set_other counts y x 0 0 other ∙ h.visited x low early
                    | inr same ↦ absurd (other (sym same))
                  ]
            ];
        others = λ x low isnt.
            get_or-set_other counts y x 0 0 (λ same. isnt (subst (λ z. is_at (take (i + 1) places) z) (sym same) (visited_now places i i_in)))
            ∙ h.others x low (λ at. isnt (visited_with places i i_in x at));
      }

-- once all were visited nothing is left
pub left_none : (n : ℕ) (places counts : List ℕ) → length counts ≡ n → AreLeft n places (length places) counts → All (λ count. count ≡ 0) counts
left_none n places counts long h x d x_in = get_or_default counts x d 0 x_in ∙ none x (omega (arith, long, x_in)) where
  none : (x : ℕ) → x < n → get_or counts x 0 ≡ 0
  none x low =
      let whole : take (length places) places ≡ places = take_all (length places) places (omega arith) in
      elim (cases_Bool (list_any (λ z. z == x) places)) [
        | inl at ↦ h.visited x low (subst (λ zs. is_at zs x) (sym whole) at)
        | inr isnt ↦ h.others x low (λ at. false≢true (sym isnt ∙ subst (λ zs. is_at zs x) whole at)) ∙ none_counted (λ z. z == x) places isnt
      ]
