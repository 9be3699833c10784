-- Digits in base 3, and what a change of one changes.
use Rattle.std.proofs.Common.{◌≡◌, ◌≢◌, ℕ, zero, suc, ◌+◌, ◌*◌, ◌/◌, ◌%◌, ◌^◌, ◌<◌, ◌≤◌, refl, sym, ◌∙◌, ap, arith, mul_left_comm, div-mul-le_self, mul-le-mul_right, le_trans}
use Rattle.std.proofs.Math.Nat.{pow-le-pow_right, pow-succ', div-div-eq-div-mul}
use Rattle.table_families.specs.Seats.{digit_of, digit_at, with_seat, IsWithSeat}
use Rattle.table_families.specs.declared.seats.Seat.{Seat}
use Rattle.table_families.specs.declared.seats.Seat.TheVariants.{Free, Held, Booked}

digit_of-below : (seat : Seat) → digit_of seat < 3
digit_of-below Free = omega arith
digit_of-below Held = omega arith
digit_of-below Booked = omega arith

-- a later digit is one of the number without the first
pub digit-later : (s i : ℕ) → digit_at s (suc i) ≡ digit_at (s / 3) i
digit-later s i = rw (pow-succ' 3 i, ← div-div-eq-div-mul s 3 (3 ^ i)) refl

-- a digit, in its place, is at most the number
pub digit-fits : (s i : ℕ) → digit_at s i * 3 ^ i ≤ s
digit-fits s i =
    let least : digit_at s i * 3 ^ i ≤ s / 3 ^ i * 3 ^ i = mul-le-mul_right (3 ^ i) (omega arith) in
    le_trans least (div-mul-le_self s (3 ^ i))

-- a change of a later digit is one of the number without the first
with-later : (seat : Seat) (s i : ℕ) → with_seat seat s (suc i) ≡ 3 * with_seat seat (s / 3) i + s % 3
with-later seat s i =
    let old : digit_at s (suc i) * 3 ^ suc i ≡ 3 * (digit_at (s / 3) i * 3 ^ i) = rw (digit-later s i, pow-succ' 3 i) (mul_left_comm (digit_at (s / 3) i) 3 (3 ^ i)) in
    let new : digit_of seat * 3 ^ suc i ≡ 3 * (digit_of seat * 3 ^ i) = rw (pow-succ' 3 i) (mul_left_comm (digit_of seat) 3 (3 ^ i)) in
    omega (arith, old, new, digit-fits (s / 3) i)

-- the digit is what it was made
made : (seat : Seat) (s i : ℕ) → digit_at (with_seat seat s i) i ≡ digit_of seat
made seat s zero = omega (arith, digit_of-below seat)
made seat s (suc i) =
    let rest : (3 * with_seat seat (s / 3) i + s % 3) / 3 ≡ with_seat seat (s / 3) i = omega arith in
    digit-later (with_seat seat s (suc i)) i ∙ rw (with-later seat s i, rest) (made seat (s / 3) i)

-- the others are what they were
others : (seat : Seat) (s i j : ℕ) → j ≢ i → digit_at (with_seat seat s i) j ≡ digit_at s j
others seat s zero zero other = absurd (other refl)
others seat s zero (suc j) other =
    let rest : with_seat seat s zero / 3 ≡ s / 3 = omega (arith, digit_of-below seat) in
    digit-later (with_seat seat s zero) j ∙ rw rest (sym (digit-later s j))
others seat s (suc i) zero other =
    let first : (3 * with_seat seat (s / 3) i + s % 3) % 3 ≡ s % 3 = omega arith in
    rw (with-later seat s i) (omega (arith, first))
others seat s (suc i) (suc j) other =
    let rest : (3 * with_seat seat (s / 3) i + s % 3) / 3 ≡ with_seat seat (s / 3) i = omega arith in
    digit-later (with_seat seat s (suc i)) j ∙ rw (with-later seat s i, rest) (others seat (s / 3) i j (λ same. other (ap suc same)) ∙ sym (digit-later s j))

-- the number has no more digits than before
inside : (seat : Seat) (s i n : ℕ) → i < n → s < 3 ^ n → with_seat seat s i < 3 ^ n
inside seat s i zero before below = absurd (omega arith)
inside seat s zero (suc n) before below = omega (arith, digit_of-below seat, below, pow-succ' 3 n)
inside seat s (suc i) (suc n) before below =
    let rest : with_seat seat (s / 3) i < 3 ^ n = inside seat (s / 3) i n (omega arith) (omega (arith, below, pow-succ' 3 n)) in
    omega (arith, with-later seat s i, rest, pow-succ' 3 n)

-- the law
pub changed : (seat : Seat) (s i : ℕ) → IsWithSeat seat s i (with_seat seat s i)
changed seat s i = record { made = made seat s i; others = others seat s i; inside = inside seat s i }

-- the powers of six digits
pub small-power : (i : ℕ) → i < 6 → 3 ^ i ≤ 243
small-power i few = pow-le-pow_right {n = 3} (omega arith) {i = i} {j = 5} (omega arith)
