-- A word and a number after it are a name.
use Rattle.std.proofs.Common.{◌≡◌, ℕ, ◌+◌, ◌-◌, ◌≤◌, true, ◌&&◌, leb, List, [], ◌∷◌, ◌++◌, length, take, refl, ap, ◌∙◌, arith}
use borrow.Rule.Slice.PartMut.{put_mid}
use Rattle.std.proofs.Math.Seq.{take-append_seam}
use Rattle.std.proofs.lemmas.Slice.{take-put_mid}
use Rattle.std.specs.Fmt.{decimal}
use Rattle.std.specs.List.{list_all}
use Rattle.std.proofs.lemmas.Bool.{le-leb, or_left, or_right, and_from, and_parts}
use Rattle.std.proofs.lemmas.List.{length-append}
use Rattle.std.proofs.lemmas.List.Folds.{list_all-append}
use Rattle.type_table.specs.Name.{is_name, is_name_byte}
use Rattle.decimals.specs.Decimals.{is_digit}
use Rattle.decimals.proofs.Decimals.{read_long}

-- digits are bytes of a name
digits_in_name : (w : List ℕ) → list_all is_digit w ≡ true → list_all is_name_byte w ≡ true
digits_in_name [] h = refl
digits_in_name (b ∷ w) h =
    let both = and_parts (is_digit b) (list_all is_digit w) h in
    and_from (is_name_byte b) (list_all is_name_byte w) (or_left _ _ (or_left _ _ (or_left _ _ (or_right _ _ both.0)))) (digits_in_name w both.1)

-- a word of at most 8 bytes, and a number of 32 bits
pub numbered_name : (word : List ℕ) (n : ℕ) → list_all is_name_byte word ≡ true → length word ≤ 8 → n ≤ 4294967295 → is_name (word ++ decimal n) ≡ true
unfolding is_name
numbered_name word n bytes short below =
    let number = read_long n below in
    let all : list_all is_name_byte (word ++ decimal n) ≡ true = list_all-append is_name_byte word (decimal n) ∙ and_from (list_all is_name_byte word) (list_all is_name_byte (decimal n)) bytes (digits_in_name (decimal n) number.digits) in
    let count = length-append word (decimal n) in
    let some : leb 1 (length (word ++ decimal n)) ≡ true = le-leb 1 (length (word ++ decimal n)) (omega (arith, count, number.some)) in
    let few : leb (length (word ++ decimal n)) 32 ≡ true = le-leb (length (word ++ decimal n)) 32 (omega (arith, count, number.short, short)) in
    and_from (leb 1 (length (word ++ decimal n)) && leb (length (word ++ decimal n)) 32) (list_all is_name_byte (word ++ decimal n)) (and_from (leb 1 (length (word ++ decimal n))) (leb (length (word ++ decimal n)) 32) some few) all

-- two words that are put into a buffer, one after the other
pub two_pieces : (front back rest : List ℕ) (a k : ℕ) → a ≡ length front → k ≡ length back → take (a + k) (put_mid a (a + k - a) (front ++ rest) back) ≡ front ++ back
two_pieces front back rest a k ea ek =
    take-put_mid a (a + k - a) (front ++ rest) back (a + k) (omega (arith, ek)) (omega (arith, ea, length-append front rest)) ∙ ap (λ x. x ++ back) (rw ea (take-append_seam front rest))
