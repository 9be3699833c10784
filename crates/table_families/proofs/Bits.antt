-- A bit of a number, set and cleared.
use Rattle.std.proofs.Common.{◌≡◌, ◌≢◌, ℕ, zero, suc, ◌+◌, ◌*◌, ◌-◌, ◌/◌, ◌%◌, ◌^◌, ◌<◌, eqb, cond, inl, inr, refl, sym, ap, ◌∙◌, arith}
use Rattle.std.specs.Int.{bit_at, bit_not}
use Rattle.std.specs.Int.Bits.{bit_and, bit_or, or_zero_r, and_lt}
use Rattle.std.proofs.lemmas.Bool.{cases_eq, eq-eqb, ne_eqb}
use Rattle.std.proofs.lemmas.Nat.{or_block, pow_pos, shr_split, one_shl, div-mul-add}
use Rattle.std.proofs.lemmas.Nat.Bits.{same_from_bits_below, bit_at_clear_same, bit_at_clear_other, bit_at_set_other}
use Rattle.std.proofs.Math.Nat.{mod-lt}
use mir.Syntax.{w16}
use Rattle.table_families.specs.Set.{with_element, without_element}

-- a bit, set
or_one : (r : ℕ) → r < 2 → bit_or r 1 ≡ 1
or_one zero h = refl
or_one (suc zero) h = refl
or_one (suc (suc r)) h = absurd (omega arith)

-- a number is what is above a bit, the bit, and what is below it
bit-parts : (s i : ℕ) → (s / 2 ^ i / 2 * 2 + bit_at s i) * 2 ^ i + s % 2 ^ i ≡ s
bit-parts s i =
    let high : s / 2 ^ i / 2 * 2 + bit_at s i ≡ s / 2 ^ i = omega arith in
    rw high (shr_split s i)

-- to set a bit leaves what is above and below it
or-parts : (i b r lo : ℕ) → r < 2 → lo < 2 ^ i → bit_or ((b * 2 + r) * 2 ^ i + lo) (2 ^ i) ≡ (b * 2 + 1) * 2 ^ i + lo
or-parts i b r lo bit low =
    let unit : 1 * 2 ^ i + 0 ≡ 2 ^ i = omega arith in
    let above : bit_or (b * 2 + r) 1 ≡ bit_or b 0 * 2 + bit_or r 1 = or_block 1 b 0 r 1 bit (omega arith) in
    let whole : bit_or ((b * 2 + r) * 2 ^ i + lo) (1 * 2 ^ i + 0) ≡ bit_or (b * 2 + r) 1 * 2 ^ i + bit_or lo 0 = or_block i (b * 2 + r) 1 lo 0 low (pow_pos i) in
    ap (λ (x : ℕ). bit_or ((b * 2 + r) * 2 ^ i + lo) x) (sym unit) ∙ whole ∙ rw (above, or_zero_r b, or_zero_r lo, or_one r bit) refl

-- which adds the bit's power of two where the bit is zero
or-cases : (i b r lo : ℕ) → r < 2 → lo < 2 ^ i → bit_or ((b * 2 + r) * 2 ^ i + lo) (2 ^ i) ≡ cond (eqb r 1) ((b * 2 + r) * 2 ^ i + lo) ((b * 2 + r) * 2 ^ i + lo + 2 ^ i)
or-cases i b zero lo bit low = or-parts i b 0 lo bit low ∙ omega arith
or-cases i b (suc zero) lo bit low = or-parts i b 1 lo bit low
or-cases i b (suc (suc r)) lo bit low = absurd (omega arith)

-- to set a bit of a number is to add its power of two where the bit is zero
pub set-bit : (i s : ℕ) → i < 16 → bit_or s (1 * 2 ^ i % 65536) ≡ with_element i s
set-bit i s h =
    let one : 1 * 2 ^ i % 65536 ≡ 2 ^ i = one_shl i 16 h in
    let cases : bit_or ((s / 2 ^ i / 2 * 2 + bit_at s i) * 2 ^ i + s % 2 ^ i) (2 ^ i) ≡ cond (eqb (bit_at s i) 1) ((s / 2 ^ i / 2 * 2 + bit_at s i) * 2 ^ i + s % 2 ^ i) ((s / 2 ^ i / 2 * 2 + bit_at s i) * 2 ^ i + s % 2 ^ i + 2 ^ i) =
    or-cases i (s / 2 ^ i / 2) (bit_at s i) (s % 2 ^ i) (mod-lt (s / 2 ^ i) (omega arith)) (mod-lt s (pow_pos i)) in
    rw one (rw (bit-parts s i) at cases)

-- a number whose bit is cleared and whose other bits stay
cleared : (i s u : ℕ) → i < 16 → s < 2 ^ 16 → u < 2 ^ 16 → bit_at u i ≡ 0 → ((j : ℕ) → j ≢ i → bit_at s j ≡ bit_at u j) → bit_and s (bit_not w16 (1 * 2 ^ i % 65536)) ≡ u
cleared i s u h small less clear same =
    same_from_bits_below 16 (bit_and s (bit_not w16 (1 * 2 ^ i % 65536))) u (and_lt 16 s (bit_not w16 (1 * 2 ^ i % 65536)) small (omega arith)) less by_bit
  where
    by_bit : (j : ℕ) → j < 16 → bit_at (bit_and s (bit_not w16 (1 * 2 ^ i % 65536))) j ≡ bit_at u j
    by_bit j below = elim (cases_eq j i) [
      | inl here ↦ rw here (bit_at_clear_same w16 s i h ∙ sym clear)
      | inr there ↦ bit_at_clear_other w16 s i h j below there ∙ same j there
    ]

-- a number without a power of two that is in it has no bit there
no_bit : (i s : ℕ) → bit_at s i ≡ 1 → bit_at (s - 2 ^ i) i ≡ 0
no_bit i s one =
    let parts : (s / 2 ^ i / 2 * 2 + 1) * 2 ^ i + s % 2 ^ i ≡ s = rw one at (bit-parts s i) in
    let rest : s - 2 ^ i ≡ s / 2 ^ i / 2 * 2 * 2 ^ i + s % 2 ^ i = omega (arith, parts) in
    let above : (s / 2 ^ i / 2 * 2 * 2 ^ i + s % 2 ^ i) / 2 ^ i ≡ s / 2 ^ i / 2 * 2 = div-mul-add (s / 2 ^ i / 2 * 2) (2 ^ i) (s % 2 ^ i) (mod-lt s (pow_pos i)) in
    rw (rest, above) (omega arith)

-- and with it put back it is the number
bit_back : (i s : ℕ) → i < 16 → bit_at s i ≡ 1 → bit_or (s - 2 ^ i) (1 * 2 ^ i % 65536) ≡ s
bit_back i s h one =
    let parts : (s / 2 ^ i / 2 * 2 + 1) * 2 ^ i + s % 2 ^ i ≡ s = rw one at (bit-parts s i) in
    let clear : bit_at (s - 2 ^ i) i ≡ 0 = no_bit i s one in
    set-bit i (s - 2 ^ i) h ∙ rw clear (omega (arith, parts))

-- to clear a bit of a number is to take its power of two off where the bit is one
pub clear-bit : (i s : ℕ) → i < 16 → s < 2 ^ 16 → bit_and s (65535 - 1 * 2 ^ i % 65536) ≡ without_element i s
clear-bit i s h small = elim (cases_eq (bit_at s i) 1) [
  | inl one ↦
      rw (eq-eqb (bit_at s i) 1 one)
      (cleared i s (s - 2 ^ i) h small (omega arith) (no_bit i s one)
      (λ j other. ap (λ (x : ℕ). bit_at x j) (sym (bit_back i s h one)) ∙ bit_at_set_other w16 (s - 2 ^ i) i h j other))
  | inr other ↦
      rw (ne_eqb (bit_at s i) 1 other)
      (cleared i s s h small small (omega (arith, other)) (λ j there. refl))
]
