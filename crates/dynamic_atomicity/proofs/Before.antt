-- Orders of transactions: what is first in a list, in its front, and in a longer one.
use Rattle.std.proofs.Common.{◌≡◌, ℕ, Bool, true, false, not, ◌&&◌, ◌||◌, ◌==◌, List, [], ◌∷◌, ◌++◌, filter, refl, sym, ap, ◌∙◌, inl, inr}
use Rattle.std.proofs.lemmas.Bool.{cases_Bool, false≢true, true≢false, eqb-true, eq-eqb, or_parts, and_parts, not-true}
use Rattle.std.proofs.lemmas.List.Folds.{list_any-append}
use Rattle.type_table.proofs.Elements.{eqb-sym}
use Rattle.serial_order.specs.Operations.{is_among}
use Rattle.dynamic_atomicity.specs.Dynamic.{comes_first, AreOnce}

-- ---- first

-- one of a list of which the other is none is first in each longer one
pub first-inside : (A R : List ℕ) (t v : ℕ) → is_among A t ≡ true → is_among A v ≡ false → comes_first (A ++ R) t v ≡ true
first-inside [] R t v inside outside = absurd (false≢true inside)
first-inside (w ∷ A) R t v inside outside =
    let parts = or_parts (w == v) (is_among A v) outside in
    elim (cases_Bool (w == t)) [
      | inl is ↦ let other : (t == v) ≡ false = rw (eqb-true w t is) at parts.0 in simp (is, other)
      | inr isnt ↦ simp (isnt, parts.0) (first-inside A R t v (rw isnt at inside) parts.1)
    ]

-- what is first, and of which the second is in the front, is first in the front
pub first-front : (A B : List ℕ) (t v : ℕ) → is_among A v ≡ true → comes_first (A ++ B) t v ≡ true → comes_first A t v ≡ true
first-front [] B t v inside first = absurd (false≢true inside)
first-front (w ∷ A) B t v inside first =
    elim (cases_Bool (w == t)) [
      | inl is ↦ simp is (simp is at first)
      | inr isnt ↦ elim (cases_Bool (w == v)) [
        | inl here ↦ absurd (false≢true (simp (isnt, here) at first))
        | inr other ↦ simp (isnt, other) (first-front A B t v (simp other at inside) (simp (isnt, other) at first))
      ]
    ]

-- what is first before u is among those before u
pub first-before : (P Q : List ℕ) (t u : ℕ) → is_among P u ≡ false → comes_first (P ++ u ∷ Q) t u ≡ true → is_among P t ≡ true
first-before [] Q t u apart first =
    elim (cases_Bool (u == t)) [
      | inl is ↦ let same : (t == u) ≡ true = eqb-sym t u ∙ is in absurd (false≢true (simp (is, same) at first))
      | inr isnt ↦ let same : (u == u) ≡ true = eq-eqb u u refl in absurd (false≢true (simp (isnt, same) at first))
    ]
first-before (w ∷ P) Q t u apart first =
    let parts = or_parts (w == u) (is_among P u) apart in
    elim (cases_Bool (w == t)) [
      | inl is ↦ simp is
      | inr isnt ↦ simp isnt (first-before P Q t u parts.1 (simp (isnt, parts.0) at first))
    ]

-- not both of two are first
pub first-one_way : (ts : List ℕ) (t u : ℕ) → comes_first ts t u ≡ true → comes_first ts u t ≡ true → ⊥
first-one_way [] t u first other = false≢true first
first-one_way (w ∷ ts) t u first other =
    elim (cases_Bool (w == t)) [
      | inl is ↦ elim (cases_Bool (w == u)) [
        | inl both ↦
            let same : (t == u) ≡ true = rw (eqb-true w t is) at both in
            false≢true (simp (is, same) at first)
        | inr apart ↦ false≢true (simp (is, apart) at other)
      ]
      | inr isnt ↦ elim (cases_Bool (w == u)) [
        | inl its ↦ false≢true (simp (isnt, its) at first)
        | inr neither ↦ first-one_way ts t u (simp (isnt, neither) at first) (simp (isnt, neither) at other)
      ]
    ]

-- what is first is in the list
pub first-among : (ts : List ℕ) (t u : ℕ) → comes_first ts t u ≡ true → is_among ts t ≡ true
first-among [] t u first = absurd (false≢true first)
first-among (w ∷ ts) t u first =
    elim (cases_Bool (w == t)) [
      | inl is ↦ simp is
      | inr isnt ↦ elim (cases_Bool (w == u)) [
        | inl its ↦ absurd (false≢true (simp (isnt, its) at first))
        | inr neither ↦ simp isnt (first-among ts t u (simp (isnt, neither) at first))
      ]
    ]

-- and isn't the other
pub first-apart : (ts : List ℕ) (t u : ℕ) → comes_first ts t u ≡ true → (t == u) ≡ false
first-apart [] t u first = absurd (false≢true first)
first-apart (w ∷ ts) t u first =
    elim (cases_Bool (w == t)) [
      | inl is ↦ not-true (t == u) (simp is at first)
      | inr isnt ↦ elim (cases_Bool (w == u)) [
        | inl its ↦ absurd (false≢true (simp (isnt, its) at first))
        | inr neither ↦ first-apart ts t u (simp (isnt, neither) at first)
      ]
    ]

-- what is first stays so after a third
pub first-later : (w : ℕ) (ts : List ℕ) (t u : ℕ) → (w == t) ≡ false → (w == u) ≡ false → comes_first ts t u ≡ true → comes_first (w ∷ ts) t u ≡ true
first-later w ts t u apart other first = simp (apart, other) first

-- the head is first before any other
pub first-head : (t : ℕ) (ts : List ℕ) (u : ℕ) → (t == u) ≡ false → comes_first (t ∷ ts) t u ≡ true
first-head t ts u apart = let same : (t == t) ≡ true = eq-eqb t t refl in simp (same, apart)

-- ---- each once

-- one of two lists, one after the other
pub among-append : (A B : List ℕ) (t : ℕ) → is_among (A ++ B) t ≡ (is_among A t || is_among B t)
among-append A B t = list_any-append (λ v. v == t) A B

-- of those that a test keeps
pub among-filter : (test : ℕ → Bool) (A : List ℕ) (t : ℕ) → is_among (filter test A) t ≡ (test t && is_among A t)
among-filter test [] t = both (test t)
  where
    both : (b : Bool) → false ≡ (b && false)
    both true = refl
    both false = refl
among-filter test (w ∷ A) t =
    elim (cases_Bool (w == t)) [
      | inl is ↦ elim (cases_Bool (test w)) [
        | inl keeps ↦ let kept : test t ≡ true = rw (eqb-true w t is) at keeps in simp (keeps, kept, is)
        | inr drops ↦ let dropped : test t ≡ false = rw (eqb-true w t is) at drops in simp (drops, dropped, among-filter test A t)
      ]
      | inr isnt ↦ elim (cases_Bool (test w)) [
        | inl keeps ↦ simp (keeps, isnt) (among-filter test A t)
        | inr drops ↦ simp (drops, isnt) (among-filter test A t)
      ]
    ]

-- what is in neither of two lists
pub among-neither : (A B : List ℕ) (t : ℕ) → is_among (A ++ B) t ≡ false → (is_among A t ≡ false) × (is_among B t ≡ false)
among-neither A B t outside = or_parts (is_among A t) (is_among B t) (sym (among-append A B t) ∙ outside)

-- the front of a list with each once
pub once-front : (A B : List ℕ) → AreOnce (A ++ B) → AreOnce A
once-front [] B once = tt
once-front (w ∷ A) B once = ((among-neither A B w once.0).0, once-front A B once.1)

-- and the rest
pub once-rest : (A B : List ℕ) → AreOnce (A ++ B) → AreOnce B
once-rest [] B once = once
once-rest (w ∷ A) B once = once-rest A B once.1

-- what is in the rest isn't in the front
pub once-apart : (A B : List ℕ) (t : ℕ) → AreOnce (A ++ B) → is_among B t ≡ true → is_among A t ≡ false
once-apart [] B t once behind = refl
once-apart (w ∷ A) B t once behind =
    elim (cases_Bool (w == t)) [
      | inl is ↦
          let outside : is_among B t ≡ false = rw (eqb-true w t is) at (among-neither A B w once.0).1 in
          absurd (true≢false (sym behind ∙ outside))
      | inr isnt ↦ simp isnt (once-apart A B t once.1 behind)
    ]

-- two lists with none in common
pub once-append : (A B : List ℕ) → AreOnce A → AreOnce B → ((t : ℕ) → is_among B t ≡ true → is_among A t ≡ false) → AreOnce (A ++ B)
once-append [] B first second apart = second
once-append (w ∷ A) B first second apart =
    (among-append A B w ∙ simp (first.0, outside), once-append A B first.1 second (λ t behind. (or_parts (w == t) (is_among A t) (apart t behind)).1))
  where
    outside : is_among B w ≡ false
    outside = elim (cases_Bool (is_among B w)) [
      | inl behind ↦ absurd (true≢false (sym (eq-eqb w w refl) ∙ (or_parts (w == w) (is_among A w) (apart w behind)).0))
      | inr not_behind ↦ not_behind
    ]

-- one more
pub once-more : (C : List ℕ) (t : ℕ) → is_among C t ≡ false → AreOnce C → AreOnce (C ++ t ∷ [])
once-more C t outside once = once-append C (t ∷ []) once (refl, tt) other
  where
    other : (u : ℕ) → is_among (t ∷ []) u ≡ true → is_among C u ≡ false
    other u is = elim (cases_Bool (t == u)) [
      | inl here ↦ rw (eqb-true t u here) at outside
      | inr apart ↦ absurd (false≢true (simp apart at is))
    ]

-- those that a test keeps
pub once-filter : (test : ℕ → Bool) (A : List ℕ) → AreOnce A → AreOnce (filter test A)
once-filter test [] once = tt
once-filter test (w ∷ A) once =
    elim (cases_Bool (test w)) [
      | inl keeps ↦ rw keeps (among-filter test A w ∙ simp (keeps, once.0), once-filter test A once.1)
      | inr drops ↦ rw drops (once-filter test A once.1)
    ]

-- ---- the rest of a list

-- those of a list that are none of C
abbrev pub rest_of : List ℕ → List ℕ → List ℕ
rest_of C P = filter (λ t. not (is_among C t)) P

pub rest-outside : (C P : List ℕ) (t : ℕ) → is_among (rest_of C P) t ≡ true → (is_among C t ≡ false) × (is_among P t ≡ true)
rest-outside C P t inside =
    let parts = and_parts (not (is_among C t)) (is_among P t) (sym (among-filter (λ v. not (is_among C v)) P t) ∙ inside) in
    (not-true (is_among C t) parts.0, parts.1)

pub rest-without : (C P : List ℕ) (t : ℕ) → is_among P t ≡ false → is_among (rest_of C P) t ≡ false
rest-without C P t outside = among-filter (λ v. not (is_among C v)) P t ∙ rw outside (and-false (not (is_among C t)))
  where
    and-false : (x : Bool) → (x && false) ≡ false
    and-false true = refl
    and-false false = refl

-- ---- in two parts

-- a list before one of its numbers, and after it
pub record IsSplit (ts : List ℕ) (u : ℕ) : Type 0 where
  pub front : List ℕ
  pub rest : List ℕ
  pub is : ts ≡ front ++ u ∷ rest
  pub apart : is_among front u ≡ false

pub split_at : (ts : List ℕ) (u : ℕ) → is_among ts u ≡ true → IsSplit ts u
split_at [] u inside = absurd (false≢true inside)
split_at (w ∷ ts) u inside =
    elim (cases_Bool (w == u)) [
      | inl is ↦ record { front = []; rest = ts; is = ap (λ v. v ∷ ts) (eqb-true w u is); apart = refl }
      | inr isnt ↦
          let s = split_at ts u (simp isnt at inside) in
          record { front = w ∷ s.front; rest = s.rest; is = ap (λ vs. w ∷ vs) s.is; apart = simp isnt s.apart }
    ]
