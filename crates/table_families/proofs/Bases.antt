-- Numbers and their digits in a base.
use Rattle.std.proofs.Common.{◌≡◌, ℕ, zero, suc, ◌+◌, ◌*◌, ◌%◌, ◌^◌, ◌<◌, ◌≤◌, List, [], ◌∷◌, ◌++◌, length, get_or, inl, inr, refl, ap, arith, length-append, mod-lt, div-lt_iff_lt-mul, eq-zero-or-pos, add-mul, mul_assoc, mul_comm, mul-le-mul_right, suc-mul, pow-suc, div-add-mod'}
use Rattle.std.proofs.Math.Nat.{pow-zero}
use Rattle.std.proofs.lemmas.Nat.{mul-add-lt, div-mul-add, mod-mul-add}
use Rattle.table_families.specs.Queue.{number_in_base, digits}

-- each digit is one
abbrev pub AreDigits : ℕ → List ℕ → Type 0
AreDigits n list = (i : ℕ) → i < length list → get_or list i 0 < n

-- those after the first are too
pub digits-rest : (n e : ℕ) (list : List ℕ) → AreDigits n (e ∷ list) → AreDigits n list
digits-rest n e list h i inside = h (suc i) (omega arith)

-- where some number has digits, a power of the base is above 0
pub some-power : (n len number : ℕ) → number < n ^ suc len → 0 < n ^ len
some-power n len number h = elim (eq-zero-or-pos (n ^ len)) [
  | inl none ↦ let product : n ^ suc len ≡ 0 * n = rw (pow-suc n len, none) refl in absurd (omega (arith, product))
  | inr some ↦ some
]

-- digits are a number below the power
pub number-below : (n : ℕ) (list : List ℕ) → AreDigits n list → number_in_base n list < n ^ length list
number-below n [] h = omega (arith, pow-zero n)
number-below n (e ∷ list) h =
    let first : e < n = h 0 (omega arith) in
    omega (arith, mul-add-lt e (n ^ length list) (number_in_base n list) n first (number-below n list (digits-rest n e list h)), pow-suc n (length list))

-- the digits of that number are they
pub digits-number : (n : ℕ) (list : List ℕ) → AreDigits n list → digits n (length list) (number_in_base n list) ≡ list
digits-number n [] h = refl
digits-number n (e ∷ list) h =
    let rest = digits-rest n e list h in
    let below = number-below n list rest in
    rw (div-mul-add e (n ^ length list) (number_in_base n list) below, mod-mul-add e (n ^ length list) (number_in_base n list) below, digits-number n list rest) refl

pub length-digits : (n len number : ℕ) → length (digits n len number) ≡ len
length-digits n zero number = refl
length-digits n (suc len) number = ap suc (length-digits n len (number % n ^ len))

-- the number of its digits is it
pub number-digits : (n len number : ℕ) → number < n ^ len → number_in_base n (digits n len number) ≡ number
number-digits n zero number h = omega (arith, pow-zero n)
number-digits n (suc len) number h =
    let rest : number % n ^ len < n ^ len = mod-lt number (some-power n len number h) in
    rw (length-digits n len (number % n ^ len), number-digits n len (number % n ^ len) rest) (div-add-mod' number (n ^ len))

-- each of its digits is one
pub digits-below : (n len number : ℕ) → number < n ^ len → AreDigits n (digits n len number)
digits-below n zero number h i inside = absurd (omega arith)
digits-below n (suc len) number h zero inside = (div-lt_iff_lt-mul (some-power n len number h)).1 (omega (arith, h, pow-suc n len, mul_comm n (n ^ len)))
digits-below n (suc len) number h (suc i) inside = digits-below n len (number % n ^ len) (mod-lt number (some-power n len number h)) i (omega arith)

-- one more digit
pub number-append : (n : ℕ) (list : List ℕ) (e : ℕ) → number_in_base n (list ++ e ∷ []) ≡ number_in_base n list * n + e
number-append n [] e = rw (pow-zero n) (omega arith)
number-append n (x ∷ list) e =
    let len : length (list ++ e ∷ []) ≡ suc (length list) = omega (arith, length-append list (e ∷ [])) in
    let first : x * n ^ length (list ++ e ∷ []) ≡ x * n ^ length list * n = rw (len, pow-suc, mul_assoc) refl in
    omega (arith, first, number-append n list e, add-mul (x * n ^ length list) (number_in_base n list) n)

-- where a digit is less, and those before it are the same, the number is less
pub number-before : (n place : ℕ) (a b : List ℕ) → length a ≡ length b → AreDigits n a → place < length b
    → ((i : ℕ) → i < place → get_or a i 0 ≡ get_or b i 0) → get_or a place 0 < get_or b place 0 → number_in_base n a < number_in_base n b
number-before n place a [] same h inside common less = absurd (omega arith)
number-before n place [] (y ∷ b) same h inside common less = cc
number-before n zero (x ∷ a) (y ∷ b) same h inside common less =
    let len : length a ≡ length b = omega (arith, same) in
    let more : suc x * n ^ length b ≤ y * n ^ length b = mul-le-mul_right (n ^ length b) less in
    rw len (omega (arith, more, suc-mul x (n ^ length b), ap (λ (l : ℕ). n ^ l) len, number-below n a (digits-rest n x a h)))
number-before n (suc place) (x ∷ a) (y ∷ b) same h inside common less =
    let len : length a ≡ length b = omega (arith, same) in
    let first : x ≡ y = common 0 (omega arith) in
    let rest = number-before n place a b len (digits-rest n x a h) (omega (arith, inside)) (λ i below. common (suc i) (omega arith)) less in
    rw (first, len) (omega (arith, rest))
