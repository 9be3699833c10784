-- Elements of lists by their places: in a list with more after it, and in one of which an element is another.
use Rattle.std.proofs.Common.{◌≡◌, ℕ, zero, suc, ◌+◌, ◌<◌, ◌==◌, Bool, true, false, cond, ◌||◌, List, [], ◌∷◌, ◌++◌, filter, length, map, set, take, drop, ◌⊎◌, Some, slice_get, slice_index_or, refl, sym, ap, ◌∙◌, inl, inr, arith}
use Rattle.std.specs.List.{Contains}
use Rattle.std.proofs.lemmas.Bool.{cases_Bool, eq-eqb}
use Rattle.std.proofs.lemmas.Option.{none-some, same_Some}
use Rattle.std.proofs.Math.Bool.{or-true}
use Rattle.type_table.proofs.Elements.{filter-length}
use Rattle.serial_order.specs.Operations.{is_among}

-- ---- places

-- what is read at a place is what is found there
pub read-found : {X : Type 0} (xs : List X) (i : ℕ) (x y : X) → slice_get xs i ≡ Some x → y ≡ slice_index_or xs i y → y ≡ x
read-found [] i x y there read = absurd (none-some x there)
read-found (z ∷ xs) zero x y there read = read ∙ same_Some z x there
read-found (z ∷ xs) (suc i) x y there read = read-found xs i x y there read

-- ---- what is still to come

-- it begins with the element at place n
pub next-found : {X : Type 0} (xs : List X) (n : ℕ) (x : X) (rest : List X) → drop n xs ≡ x ∷ rest → slice_get xs n ≡ Some x
next-found [] zero x rest coming = absurd (cc)
next-found [] (suc n) x rest coming = absurd (cc)
next-found (z ∷ xs) zero x rest coming = cc
next-found (z ∷ xs) (suc n) x rest coming = next-found xs n x rest coming

-- the elements before the next place have it too
pub next-behind : {X : Type 0} (xs : List X) (n : ℕ) (x : X) (rest : List X) → drop n xs ≡ x ∷ rest → take (suc n) xs ≡ take n xs ++ x ∷ []
next-behind [] zero x rest coming = absurd (cc)
next-behind [] (suc n) x rest coming = absurd (cc)
next-behind (z ∷ xs) zero x rest coming = cc
next-behind (z ∷ xs) (suc n) x rest coming = ap (λ l. z ∷ l) (next-behind xs n x rest coming)

-- and the rest is still to come
pub next-rest : {X : Type 0} (xs : List X) (n : ℕ) (x : X) (rest : List X) → drop n xs ≡ x ∷ rest → drop (suc n) xs ≡ rest
next-rest [] zero x rest coming = absurd (cc)
next-rest [] (suc n) x rest coming = absurd (cc)
next-rest (z ∷ xs) zero x rest coming = cc
next-rest (z ∷ xs) (suc n) x rest coming = next-rest xs n x rest coming

-- ---- one more

-- what is found with one more in two lists of one length was found before in both, or is the last of both
pub found-both : {X Y : Type 0} (xs : List X) (ys : List Y) (a : X) (b : Y) (i : ℕ) (x : X) (y : Y) → length xs ≡ length ys
    → slice_get (xs ++ a ∷ []) i ≡ Some x → slice_get (ys ++ b ∷ []) i ≡ Some y
    → ((slice_get xs i ≡ Some x) × (slice_get ys i ≡ Some y)) ⊎ ((i ≡ length xs) × (a ≡ x) × (b ≡ y))
found-both [] [] a b zero x y same there found = inr (refl, same_Some a x there, same_Some b y found)
found-both [] [] a b (suc i) x y same there found = absurd (none-some x there)
found-both [] (d ∷ ys) a b i x y same there found = absurd (omega (arith, same))
found-both (c ∷ xs) [] a b i x y same there found = absurd (omega (arith, same))
found-both (c ∷ xs) (d ∷ ys) a b zero x y same there found = inl (there, found)
found-both (c ∷ xs) (d ∷ ys) a b (suc i) x y same there found =
    elim (found-both xs ys a b i x y (omega (arith, same)) there found) [
      | inl before ↦ inl before
      | inr now ↦ inr (ap (λ n. suc n) now.0, now.1, now.2)
    ]

-- ---- one element is another

-- it is found there, where there was one
pub found-set : {X : Type 0} (xs : List X) (i : ℕ) (x y : X) → slice_get xs i ≡ Some x → slice_get (set xs i y) i ≡ Some y
found-set [] i x y there = absurd (none-some x there)
found-set (z ∷ xs) zero x y there = refl
found-set (z ∷ xs) (suc i) x y there = found-set xs i x y there

-- at other places the elements are the same
pub found-others : {X : Type 0} (xs : List X) (i : ℕ) (y : X) (j : ℕ) → (j ≡ i → ⊥) → slice_get (set xs i y) j ≡ slice_get xs j
found-others [] i y j other = refl
found-others (z ∷ xs) zero y zero other = absurd (other refl)
found-others (z ∷ xs) zero y (suc j) other = refl
found-others (z ∷ xs) (suc i) y zero other = refl
found-others (z ∷ xs) (suc i) y (suc j) other = found-others xs i y j (λ e. other (ap (λ n. suc n) e))

-- where f gives the same of the new element and the old one, it gives the same of each
pub map-set_alike : {X Y : Type 0} (f : X → Y) (xs : List X) (i : ℕ) (x y : X) → slice_get xs i ≡ Some x → f y ≡ f x → map f (set xs i y) ≡ map f xs
map-set_alike f [] i x y there alike = refl
map-set_alike f (z ∷ xs) zero x y there alike = ap (λ k. k ∷ map f xs) (alike ∙ ap f (sym (same_Some z x there)))
map-set_alike f (z ∷ xs) (suc i) x y there alike = ap (λ l. f z ∷ l) (map-set_alike f xs i x y there alike)

-- ---- how many pass a test

-- with this element or without
one-more : (b : Bool) {X : Type 0} (x : X) (xs : List X) → length (cond b (x ∷ xs) xs) ≡ length xs + cond b 1 0
one-more true x xs = omega arith
one-more false x xs = omega arith

-- where one element is another
pub count-set : {X : Type 0} (test : X → Bool) (xs : List X) (i : ℕ) (x y : X) → slice_get xs i ≡ Some x →
    length (filter test (set xs i y)) + cond (test x) 1 0 ≡ length (filter test xs) + cond (test y) 1 0
count-set test [] i x y there = absurd (none-some x there)
count-set test (z ∷ xs) zero x y there =
    let same : test z ≡ test x = ap test (same_Some z x there) in
    rw (one-more (test y) y (filter test xs), one-more (test z) z (filter test xs), same) (omega arith)
count-set test (z ∷ xs) (suc i) x y there =
    let rest = count-set test xs i x y there in
    rw (one-more (test z) z (filter test (set xs i y)), one-more (test z) z (filter test xs)) (omega (arith, rest))

-- fewer pass than there are, where one doesn't
pub count-fewer : {X : Type 0} (test : X → Bool) (xs : List X) (i : ℕ) (x : X) → slice_get xs i ≡ Some x → test x ≡ false → length (filter test xs) < length xs
count-fewer test [] i x there fails = absurd (none-some x there)
count-fewer test (z ∷ xs) zero x there fails =
    let most = filter-length test xs in
    let same : test z ≡ false = ap test (same_Some z x there) ∙ fails in
    rw (one-more (test z) z (filter test xs), same) (omega (arith, most))
count-fewer test (z ∷ xs) (suc i) x there fails =
    let rest = count-fewer test xs i x there fails in
    elim (cases_Bool (test z)) [
      | inl passes ↦ rw (one-more (test z) z (filter test xs), passes) (omega (arith, rest))
      | inr fails_here ↦ rw (one-more (test z) z (filter test xs), fails_here) (omega (arith, rest))
    ]

-- none, where none passes at any place
pub count-none : {X : Type 0} (test : X → Bool) (xs : List X) → ((i : ℕ) (x : X) → slice_get xs i ≡ Some x → test x ≡ false) → length (filter test xs) ≡ 0
count-none test [] none = refl
count-none test (z ∷ xs) none = rw (one-more (test z) z (filter test xs), none 0 z refl, count-none test xs (λ i x there. none (suc i) x there)) refl

-- ---- elements

-- a number of a list is among them
among-at : (ts : List ℕ) (t k : ℕ) → k < length ts → slice_index_or ts k t ≡ t → is_among ts t ≡ true
among-at [] t k low at = absurd (omega (arith, low))
among-at (u ∷ ts) t zero low at = ap (λ b. b || is_among ts t) (eq-eqb u t at)
among-at (u ∷ ts) t (suc k) low at = rw (among-at ts t k (omega (arith, low)) at) (or-true (u == t))

pub among : (ts : List ℕ) (t : ℕ) → Contains ts t → is_among ts t ≡ true
among ts t inside = among-at ts t (inside.0) (inside.1) (inside.2)
