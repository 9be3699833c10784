-- What bytes are a name.
use Rattle.std.proofs.Common.{◌≡◌, ℕ, ◌+◌, ◌-◌, ◌%◌, ◌^◌, ◌<◌, ◌≤◌, true, leb, ◌&&◌, List, [], ◌∷◌, ◌++◌, length, take, refl, ap, ◌∙◌, arith}
use Rattle.std.specs.Fmt.{decimal}
use Rattle.std.specs.List.{list_all}
use Rattle.std.proofs.lemmas.Bool.{le-leb, leb-true, or_left, or_right, and_from, and_parts}
use Rattle.std.proofs.lemmas.Fmt.{decimal_by_steps}
use Rattle.std.proofs.lemmas.List.{length-append}
use Rattle.std.proofs.lemmas.List.Folds.{list_all-append}
use Rattle.std.proofs.lemmas.Slice.{take-put_mid}
use borrow.Rule.Slice.PartMut.{put_mid}
use Rattle.std.proofs.Math.Seq.{take-append_seam}
use Rattle.type_table.specs.Name.{is_name, is_name_byte}

-- 1 to 32 bytes of a name are a name
pub is_name-bytes : (bytes : List ℕ) → list_all is_name_byte bytes ≡ true → 0 < length bytes → length bytes ≤ 32 → is_name bytes ≡ true
unfolding is_name
is_name-bytes bytes all some short = rw (le-leb 1 (length bytes) some, le-leb (length bytes) 32 short, all) refl

-- bytes of a name after others
pub name_bytes-append : (front back : List ℕ) → list_all is_name_byte front ≡ true → list_all is_name_byte back ≡ true → list_all is_name_byte (front ++ back) ≡ true
name_bytes-append front back f b = list_all-append is_name_byte front back ∙ rw (f, b) refl

-- a digit is a byte of a name
digit_byte : (d : ℕ) → d < 10 → is_name_byte (48 + d) ≡ true
digit_byte d h = or_left _ _ (or_left _ _ (or_left _ _ (or_right _ _ (and_from _ _ (le-leb 48 (48 + d) (omega arith)) (le-leb (48 + d) 57 (omega arith))))))

-- and so is each byte of a number
pub name_bytes-decimal : (n : ℕ) → n < 2 ^ 64 → list_all is_name_byte (decimal n) ≡ true
name_bytes-decimal = decimal_by_steps (λ n digits. list_all is_name_byte digits ≡ true)
    (λ n h. rw (digit_byte n h) refl)
    (λ n digits h front. name_bytes-append digits ((48 + n % 10) ∷ []) front (rw (digit_byte (n % 10) (omega arith)) refl))

-- two pieces, written into a buffer one after the other
pub two_pieces : (front back rest : List ℕ) (a k : ℕ) → a ≡ length front → k ≡ length back → take (a + k) (put_mid a (a + k - a) (front ++ rest) back) ≡ front ++ back
two_pieces front back rest a k ea ek =
    take-put_mid a (a + k - a) (front ++ rest) back (a + k) (omega (arith, ek)) (omega (arith, ea, length-append front rest)) ∙ ap (λ x. x ++ back) (rw ea (take-append_seam front rest))

-- a name has bytes of a name, at least one
pub name-bytes : (name : List ℕ) → is_name name ≡ true → (list_all is_name_byte name ≡ true) × (0 < length name)
unfolding is_name
name-bytes name h =
    let parts = and_parts (leb 1 (length name) && leb (length name) 32) (list_all is_name_byte name) h in
    (parts.1, leb-true 1 (length name) (and_parts (leb 1 (length name)) (leb (length name) 32) parts.0).0)
