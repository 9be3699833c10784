-- Lines of a keyword and numbers, spelled from their front.
use Rattle.std.proofs.Common.{◌≡◌, ℕ, ◌+◌, ◌<◌, ◌≤◌, ◌^◌, ◌/◌, ◌%◌, List, [], ◌∷◌, ◌++◌, length, take, drop, set, refl, sym, ap, ◌∙◌, arith, append_assoc, length-append, length-set}
use Rattle.std.proofs.Math.Seq.{take-add, take-append_seam}
use Rattle.std.proofs.lemmas.Fmt.{decimal_digit, decimal_step}
use Rattle.std.proofs.lemmas.Grind.{take-set_at}
use Rattle.std.specs.Fmt.{decimal}
use Rattle.std.specs.List.{flat_map}
use Rattle.outputs.specs.Numbers.{numbers_line}
use Rattle.outputs.proofs.Puts.{line-words}

-- ---- how many digits a number has

-- one more than its tenth
one_more : (k n : ℕ) → 10 ≤ n → n < 2 ^ 64 → length (decimal (n / 10)) ≡ k → length (decimal n) ≡ k + 1
one_more k n low small tenth = ap length (decimal_step n low small) ∙ length-append (decimal (n / 10)) ((48 + n % 10) ∷ []) ∙ ap (λ (i : ℕ). i + 1) tenth

digits_1 : (n : ℕ) → n < 10 → length (decimal n) ≡ 1
digits_1 n high = ap length (decimal_digit n high)

pub digits_2 : (n : ℕ) → 10 ≤ n → n < 100 → length (decimal n) ≡ 2
digits_2 n low high = one_more 1 n (omega arith) (omega arith) (digits_1 (n / 10) (omega arith))

pub digits_3 : (n : ℕ) → 100 ≤ n → n < 1000 → length (decimal n) ≡ 3
digits_3 n low high = one_more 2 n (omega arith) (omega arith) (digits_2 (n / 10) (omega arith) (omega arith))

pub digits_4 : (n : ℕ) → 1000 ≤ n → n < 10000 → length (decimal n) ≡ 4
digits_4 n low high = one_more 3 n (omega arith) (omega arith) (digits_3 (n / 10) (omega arith) (omega arith))

pub digits_5 : (n : ℕ) → 10000 ≤ n → n < 100000 → length (decimal n) ≡ 5
digits_5 n low high = one_more 4 n (omega arith) (omega arith) (digits_4 (n / 10) (omega arith) (omega arith))

pub digits_6 : (n : ℕ) → 100000 ≤ n → n < 1000000 → length (decimal n) ≡ 6
digits_6 n low high = one_more 5 n (omega arith) (omega arith) (digits_5 (n / 10) (omega arith) (omega arith))

pub digits_7 : (n : ℕ) → 1000000 ≤ n → n < 10000000 → length (decimal n) ≡ 7
digits_7 n low high = one_more 6 n (omega arith) (omega arith) (digits_6 (n / 10) (omega arith) (omega arith))

pub digits_8 : (n : ℕ) → 10000000 ≤ n → n < 100000000 → length (decimal n) ≡ 8
digits_8 n low high = one_more 7 n (omega arith) (omega arith) (digits_7 (n / 10) (omega arith) (omega arith))

pub digits_9 : (n : ℕ) → 100000000 ≤ n → n < 1000000000 → length (decimal n) ≡ 9
digits_9 n low high = one_more 8 n (omega arith) (omega arith) (digits_8 (n / 10) (omega arith) (omega arith))

pub digits_10 : (n : ℕ) → 1000000000 ≤ n → n < 4294967296 → length (decimal n) ≡ 10
digits_10 n low high = one_more 9 n (omega arith) (omega arith) (digits_9 (n / 10) (omega arith) (omega arith))

-- ---- what stays before a place

-- two bytes that were written at a place
pub two_set : (l : List ℕ) (i a b : ℕ) → i + 2 ≤ length l → take (i + 2) (set (set l i a) (i + 1) b) ≡ take i l ++ a ∷ b ∷ []
two_set l i a b room =
    take-set_at (set l i a) (i + 1) (i + 2) b (omega arith) (omega (arith, length-set l i a))
    ∙ ap (λ (f : List ℕ). f ++ b ∷ []) (take-set_at l i (i + 1) a refl (omega arith)) ∙ append_assoc (take i l) (a ∷ []) (b ∷ [])

-- what was spelled from a place on, with all before it as it was
pub spelled : (old new text rest : List ℕ) (start end : ℕ) → take start new ≡ take start old → drop start new ≡ text ++ rest → start + length text ≡ end
    → take end new ≡ take start old ++ text
spelled old new text rest start end before behind reaches =
    ap (λ (i : ℕ). take i new) (sym reaches) ∙ take-add start (length text) new ∙ ap (λ (l : List ℕ). l ++ take (length text) (drop start new)) before
    ∙ ap (λ (l : List ℕ). take start old ++ take (length text) l) behind ∙ ap (λ (l : List ℕ). take start old ++ l) (take-append_seam text rest)

-- ---- a whole line

-- numbers, each with a space before it
abbrev pub numbers_text : List ℕ → List ℕ
numbers_text ns = flat_map (λ n. 32 ∷ decimal n) ns

-- a keyword, numbers and the end of the line
pub line-parts : (front keyword : List ℕ) (ns : List ℕ) → ((front ++ keyword) ++ numbers_text ns) ++ 10 ∷ [] ≡ front ++ numbers_line keyword ns
line-parts front keyword ns =
    append_assoc (front ++ keyword) (numbers_text ns) (10 ∷ []) ∙ append_assoc front keyword (numbers_text ns ++ 10 ∷ [])
    ∙ ap (λ (l : List ℕ). front ++ l) (line-words decimal keyword ns)
