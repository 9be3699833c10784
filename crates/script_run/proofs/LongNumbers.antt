-- The text of a number of 32 bits, which has at most ten digits.
use Rattle.std.proofs.Common.{◌≡◌, ℕ, ◌+◌, ◌*◌, ◌/◌, ◌%◌, ◌<◌, ◌≤◌, ◌^◌, true, List, [], ◌∷◌, ◌++◌, refl, sym, subst, inl, inr, arith}
use Rattle.std.specs.Prelude.{nat_le}
use Rattle.std.specs.Fmt.{decimal}
use Rattle.std.specs.List.{list_all}
use Rattle.std.proofs.lemmas.Bool.{and_from, and_parts, cases_lt, le-leb}
use Rattle.std.proofs.lemmas.Fmt.{decimal_step, length-decimal-le}
use Rattle.line_text.specs.LineTests.{is_text_byte}
use Rattle.line_text.proofs.CommentLines.{IsText, number_text}

-- one more byte
more-bytes : (w : List ℕ) (b : ℕ) → list_all is_text_byte w ≡ true → is_text_byte b ≡ true → list_all is_text_byte (w ++ b ∷ []) ≡ true
more-bytes [] b all here = and_from (is_text_byte b) true here refl
more-bytes (x ∷ w) b all here =
    let parts = and_parts (is_text_byte x) (list_all is_text_byte w) all in
    and_from (is_text_byte x) (list_all is_text_byte (w ++ b ∷ [])) parts.0 (more-bytes w b parts.1 here)

digit-byte : (n : ℕ) → is_text_byte (48 + n % 10) ≡ true
digit-byte n = and_from (nat_le 32 (48 + n % 10)) (nat_le (48 + n % 10) 126) (le-leb 32 (48 + n % 10) (omega arith)) (le-leb (48 + n % 10) 126 (omega arith))

-- ten times as many numbers
ten-times : (most : ℕ) → 10 ≤ most → ((n : ℕ) → n < most → list_all is_text_byte (decimal n) ≡ true) → (n : ℕ) → n < 10 * most → n < 2 ^ 32 → list_all is_text_byte (decimal n) ≡ true
ten-times most some below n within fits =
    elim (cases_lt n most) [
      | inl few ↦ below n few
      | inr many ↦
          subst (λ (w : List ℕ). list_all is_text_byte w ≡ true) (sym (decimal_step n (omega (arith, many, some)) (omega (arith, fits))))
          (more-bytes (decimal (n / 10)) (48 + n % 10) (below (n / 10) (omega (arith, within))) (digit-byte n))
    ]

-- a number of 32 bits
pub long_number_text : (n : ℕ) → n < 2 ^ 32 → IsText (decimal n)
long_number_text n fits =
    let seven : (k : ℕ) → k < 10000000 → list_all is_text_byte (decimal k) ≡ true = λ k few. (number_text k few).bytes in
    let eight : (k : ℕ) → k < 100000000 → list_all is_text_byte (decimal k) ≡ true = λ k few. ten-times 10000000 (omega arith) seven k few (omega (arith, few)) in
    let nine : (k : ℕ) → k < 1000000000 → list_all is_text_byte (decimal k) ≡ true = λ k few. ten-times 100000000 (omega arith) eight k few (omega (arith, few)) in
    record {
      bytes = ten-times 1000000000 (omega arith) nine n (omega (arith, fits)) fits;
      short = let digits = length-decimal-le 10 n (omega arith) (omega (arith, fits)) (omega (arith, fits)) in omega (arith, digits);
    }
