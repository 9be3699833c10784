-- Sums over transactions.
use Rattle.std.proofs.Common.{◌≡◌, ℕ, zero, suc, ◌+◌, ◌<◌, ◌≤◌, false, ◌==◌, List, [], refl, sym, ap, ◌∙◌, inl, inr, arith}
use Rattle.std.proofs.lemmas.Bool.{cases_Bool, cases_lt, eqb-true, eq-eqb, ne_eqb}
use Rattle.escrow_laws.specs.Firm.{sum_below, except}

-- a sum of nothing is nothing
pub sum-zero : (m : ℕ) (f : ℕ → ℕ) → ((u : ℕ) → f u ≡ 0) → sum_below m f ≡ 0
sum-zero zero f none = refl
sum-zero (suc m) f none = let rest = sum-zero m f none in let here = none m in omega (arith, rest, here)

-- a sum of less is less
pub sum-less : (m : ℕ) (f g : ℕ → ℕ) → ((u : ℕ) → f u ≤ g u) → sum_below m f ≤ sum_below m g
sum-less zero f g less = omega arith
sum-less (suc m) f g less = let rest = sum-less m f g less in let here = less m in omega (arith, rest, here)

-- a sum over more is more
pub sum-more : (m n : ℕ) (f : ℕ → ℕ) → m ≤ n → sum_below m f ≤ sum_below n f
sum-more m zero f inside = let none : m ≡ 0 = omega arith in rw none (omega arith)
sum-more m (suc n) f inside =
    elim (cases_lt n m) [
      | inl last ↦ let all : m ≡ suc n = omega arith in rw all (omega arith)
      | inr before ↦ let rest = sum-more m n f before in omega (arith, rest)
    ]

-- where there is nothing from b on, a sum is no more than that below b
pub sum-all : (m b : ℕ) (f : ℕ → ℕ) → ((u : ℕ) → b ≤ u → f u ≡ 0) → sum_below m f ≤ sum_below b f
sum-all zero b f none = omega arith
sum-all (suc m) b f none =
    elim (cases_lt m b) [
      | inl inside ↦ sum-more (suc m) b f (omega arith)
      | inr outside ↦ let rest = sum-all m b f none in let here = none m outside in omega (arith, rest, here)
    ]

-- a sum of less, with nothing at t, leaves room for what was at t
pub sum-gap : (m : ℕ) (f g : ℕ → ℕ) (t : ℕ) → t < m → ((u : ℕ) → g u ≤ f u) → g t ≡ 0 → sum_below m g + f t ≤ sum_below m f
sum-gap zero f g t inside less none = absurd (omega arith)
sum-gap (suc m) f g t inside less none =
    elim (cases_lt t m) [
      | inl before ↦ let rest = sum-gap m f g t before less none in let here = less m in omega (arith, rest, here)
      | inr last ↦
          let same : t ≡ m = omega arith in
          let rest = sum-less m g f less in
          let there : f t ≡ f m = ap f same in
          let nothing : g m ≡ 0 = ap g (sym same) ∙ none in
          omega (arith, rest, there, nothing)
    ]

-- ---- all but one

-- less at each is less at all but one
pub except-less : (t : ℕ) (f g : ℕ → ℕ) → ((u : ℕ) → f u ≤ g u) → (u : ℕ) → except t f u ≤ except t g u
except-less t f g less u =
    elim (cases_Bool (u == t)) [
      | inl is ↦ rw is (omega arith)
      | inr other ↦ rw other (less u)
    ]

-- nothing at all but one, where there is nothing at each other
pub except-zero : (t : ℕ) (f : ℕ → ℕ) → ((u : ℕ) → (u == t) ≡ false → f u ≡ 0) → (u : ℕ) → except t f u ≡ 0
except-zero t f none u =
    elim (cases_Bool (u == t)) [
      | inl is ↦ rw is refl
      | inr other ↦ rw other (none u other)
    ]

-- no more at all but one than at all
except-most : (t : ℕ) (f : ℕ → ℕ) (u : ℕ) → except t f u ≤ f u
except-most t f u =
    elim (cases_Bool (u == t)) [
      | inl is ↦ rw is (omega arith)
      | inr other ↦ rw other (omega arith)
    ]

-- nothing at that one
except-none : (t : ℕ) (f : ℕ → ℕ) → except t f t ≡ 0
except-none t f = rw (eq-eqb t t refl) refl

-- a sum is at most that of all but one, and that one
pub sum-except : (m : ℕ) (f : ℕ → ℕ) (t : ℕ) → sum_below m f ≤ sum_below m (except t f) + f t
sum-except zero f t = omega arith
sum-except (suc m) f t =
    elim (cases_Bool (m == t)) [
      | inl is ↦ rw (is, eqb-true m t is) (let rest = sum-agree t f t (omega arith) in omega (arith, rest))
      | inr other ↦ rw other (let rest = sum-except m f t in omega (arith, rest))
    ]
  where
    sum-agree : (n : ℕ) (f : ℕ → ℕ) (t : ℕ) → n ≤ t → sum_below n f ≤ sum_below n (except t f)
    sum-agree zero f t far = omega arith
    sum-agree (suc n) f t far =
        let apart : (n == t) ≡ false = ne_eqb n t (λ same. omega (arith, far, same)) in
        let rest = sum-agree n f t (omega (arith, far)) in
        rw apart (omega (arith, rest))

-- and just that, where it is below m
pub sum-apart : (m : ℕ) (f : ℕ → ℕ) (t : ℕ) → t < m → sum_below m f ≡ sum_below m (except t f) + f t
sum-apart m f t inside =
    let most = sum-except m f t in
    let least = sum-gap m f (except t f) t inside (except-most t f) (except-none t f) in
    omega (arith, most, least)

-- what a transaction did counts no more among the others, where it did nothing any more
pub gap : (amount : List ℕ → ℕ) → amount [] ≡ 0 → (own rest : ℕ → List ℕ) (t u m : ℕ) → (t == u) ≡ false → rest t ≡ [] → ((v : ℕ) → (v == t) ≡ false → rest v ≡ own v)
    → sum_below m (except u (λ v. amount (rest v))) + amount (own t) ≤ sum_below (m + suc t) (except u (λ v. amount (own v)))
gap amount nothing own rest t u m apart gone same =
    let f : ℕ → ℕ = λ v. amount (own v) in
    let g : ℕ → ℕ = λ v. amount (rest v) in
    let less : (v : ℕ) → g v ≤ f v = λ v. elim (cases_Bool (v == t)) [
      | inl is ↦ let empty : g v ≡ 0 = ap amount (ap rest (eqb-true v t is) ∙ gone) ∙ nothing in omega (arith, empty)
      | inr other ↦ let equal : g v ≡ f v = ap amount (same v other) in omega (arith, equal)
    ] in
    let none : except u g t ≡ 0 = rw apart (ap amount gone ∙ nothing) in
    let there : except u f t ≡ f t = rw apart refl in
    let room = sum-gap (m + suc t) (except u f) (except u g) t (omega arith) (except-less u g f less) none in
    let more = sum-more m (m + suc t) (except u g) (omega arith) in
    omega (arith, room, more, there)
