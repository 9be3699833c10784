-- Bits in words of 64 bits.
use Rattle.std.proofs.Common.{◌≡◌, ℕ, ◌*◌, ◌^◌, ◌%◌, ◌/◌, ◌<◌, Bool, eqb, ◌||◌, List, length, get_or, set, bit_or, w64, sym, ap, ◌∙◌, inl, inr, arith}
use Rattle.std.specs.Int.{bit_at}
use Rattle.std.proofs.lemmas.Bool.{cases_eq, eq-eqb, ne_eqb, or_right}
use Rattle.std.proofs.lemmas.List.{get_or-set_same, get_or-set_other}
use Rattle.std.proofs.lemmas.Nat.Bits.{bit_at_set_same, bit_at_set_other}
use Rattle.std.proofs.Math.Bool.{or-false}
use Rattle.equi_cert.specs.Bits.{has_bit}

-- what is elsewhere stays
kept : (old : Bool) (i place : ℕ) → (i ≡ place → ⊥) → old ≡ (old || eqb i place)
kept old i place ne = sym (or-false old) ∙ ap (λ x. old || x) (sym (ne_eqb i place ne))

-- a word with one more bit
pub has_bit-set : (words : List ℕ) (place i : ℕ) → place / 64 < length words →
    has_bit (set words (place / 64) (bit_or (get_or words (place / 64) 0) (1 * 2 ^ (place % 64) % 2 ^ 64))) i ≡ (has_bit words i || eqb i place)
has_bit-set words place i below =
    let word : ℕ = get_or words (place / 64) 0 in
    let more : ℕ = bit_or word (1 * 2 ^ (place % 64) % 2 ^ 64) in
    let read = get_or-set_same words (place / 64) more 0 below in
    elim (cases_eq (i / 64) (place / 64)) [
      | inl same ↦ elim (cases_eq (i % 64) (place % 64)) [
        | inl here ↦
            ap (λ w. eqb (bit_at (get_or (set words (place / 64) more) w 0) (i % 64)) 1) same
            ∙ ap (λ w. eqb (bit_at w (i % 64)) 1) read
            ∙ ap (λ b. eqb (bit_at more b) 1) here
            ∙ ap (λ b. eqb b 1) (bit_at_set_same w64 word (place % 64) (omega arith))
            ∙ sym (or_right (has_bit words i) (eqb i place) (eq-eqb i place (omega arith)))
        | inr other ↦
            ap (λ w. eqb (bit_at (get_or (set words (place / 64) more) w 0) (i % 64)) 1) same
            ∙ ap (λ w. eqb (bit_at w (i % 64)) 1) read
            ∙ ap (λ b. eqb b 1) (bit_at_set_other w64 word (place % 64) (omega arith) (i % 64) other)
            ∙ ap (λ w. eqb (bit_at (get_or words w 0) (i % 64)) 1) (sym same)
            ∙ kept (has_bit words i) i place (λ e. other (ap (λ n. n % 64) e))
      ]
      | inr elsewhere ↦
          ap (λ w. eqb (bit_at w (i % 64)) 1) (get_or-set_other words (place / 64) (i / 64) more 0 elsewhere)
          ∙ kept (has_bit words i) i place (λ e. elsewhere (ap (λ n. n / 64) e))
    ]

-- the same bits, under the names that a call gives the words
pub bits-added : (words lent written shown : List ℕ) (place at : ℕ) → lent ≡ words → shown ≡ written → place ≡ at →
    ((i : ℕ) → has_bit written i ≡ (has_bit lent i || eqb i place)) → (i : ℕ) → has_bit shown i ≡ (has_bit words i || eqb i at)
bits-added words lent written shown place at lent_is shown_is place_is h i =
    ap (λ ws. has_bit ws i) shown_is ∙ h i ∙ ap (λ ws. has_bit ws i || eqb i place) lent_is ∙ ap (λ p. has_bit words i || eqb i p) place_is
