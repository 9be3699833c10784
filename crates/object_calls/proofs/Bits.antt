-- The lowest bit of a word.
use Rattle.std.proofs.Common.{◌≡◌, ℕ, ◌*◌, ◌^◌, ◌%◌, ◌<◌, ◌≤◌, bit_and, w64, ap, inl, inr, arith}
use Rattle.std.specs.Int.{bit_at, bit_not, trailing_zeros}
use Rattle.std.proofs.lemmas.Bool.{cases_lt}
use Rattle.std.proofs.lemmas.Nat.{and_le_l}
use Rattle.std.proofs.lemmas.Nat.Bits.{bit_at-trailing_zeros, bit_at_clear_same, bit_at_clear_other}
use Rattle.object_calls.specs.Lowest.{TakesLowest}

-- a word that loses a bit becomes less
less_without : (old new k : ℕ) → new ≤ old → bit_at old k ≡ 1 → bit_at new k ≡ 0 → new < old
less_without old new k most has taken =
    elim (cases_lt new old) [
      | inl less ↦ less
      | inr same ↦
          let equal : new ≡ old = omega (arith, most, same) in
          absurd (omega (arith, has, taken, ap (λ w. bit_at w k) equal))
    ]

-- without the bit at the number of its trailing zeros
pub lowest_taken : (word : ℕ) → 0 < word → word < 2 ^ 64 → TakesLowest word (trailing_zeros w64 word) (bit_and word (bit_not w64 (1 * 2 ^ trailing_zeros w64 word % 2 ^ 64)))
lowest_taken word some fits =
    let k : ℕ = trailing_zeros w64 word in
    let mask : ℕ = bit_not w64 (1 * 2 ^ k % 2 ^ 64) in
    let low = bit_at-trailing_zeros w64 word some fits in
    let taken : bit_at (bit_and word mask) k ≡ 0 = bit_at_clear_same w64 word k low.0 in
    record {
      within = low.0;
      has = low.1;
      lowest = low.2;
      taken = taken;
      others = λ q below other. bit_at_clear_other w64 word k low.0 q below other;
      less = less_without word (bit_and word mask) k (and_le_l word mask) low.1 taken;
    }
