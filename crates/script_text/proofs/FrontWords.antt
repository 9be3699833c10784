-- A name is found by the words of a text.
use Rattle.std.proofs.Common.{◌≡◌, ℕ, zero, suc, ◌+◌, ◌-◌, ◌*◌, ◌/◌, ◌%◌, ◌^◌, ◌<◌, ◌≤◌, min, true, inl, inr, List, [], ◌∷◌, ◌++◌, length, get_or, take, drop, Some, refl, sym, ap, ◌∙◌, subst, arith, append_assoc}
use Rattle.std.specs.Prelude.{slice_get}
use Rattle.std.specs.Int.{w64, byte_at, bytes_low_first, to_le_bytes, from_le_bytes}
use Rattle.std.specs.Int.Bits.{bit_and}
use Rattle.std.proofs.lemmas.Bool.{cases_lt}
use Rattle.std.proofs.lemmas.List.{length-take-le, length-drop, take-append-drop, take-append-le, take_all, take_at, append-nil, get_or-take, get_or-drop, get_or_past, length-append}
use Rattle.std.proofs.lemmas.Nat.{and_mask, and_le_r, field_of, pow-add, le_bytes_8}
use Rattle.std.proofs.Math.Nat.{pow-suc, div-one}
use Rattle.std.proofs.Math.Pow.{mod-mod-pow}
use Rattle.std.proofs.Math.Seq.{take-append-add}
use Rattle.type_table.specs.Name.{is_name as is_name_text}
use Rattle.script_text.specs.Fronts.{BeginsWithWords, IsFrontOf, FindsName, mask_of}
use Rattle.script_text.specs.declared.fronts.Words.{Words}
use Rattle.script_text.specs.declared.fronts.Front.{Front}

-- ---- the low bytes of a word

-- a power of 256
byte_power : (i : ℕ) → 256 ^ i ≡ 2 ^ (8 * i)
byte_power zero = refl
byte_power (suc i) = pow-suc 256 i ∙ ap (λ x. x * 256) (byte_power i) ∙ sym (pow-add 2 (8 * i) 8) ∙ ap (λ j. 2 ^ j) (omega arith)

byte_at_is : (i n : ℕ) → byte_at i n ≡ n / 2 ^ (8 * i) % 2 ^ 8
byte_at_is zero n = ap (λ x. x % 256) (sym (div-one n))
byte_at_is (suc i) n = ap (λ x. n / x % 256) (byte_power (suc i))

-- byte i is one of the low i + 1 + r bytes
low_byte : (n i r : ℕ) → byte_at i (n % 2 ^ (8 * (i + suc r))) ≡ byte_at i n
low_byte n i r =
    let bits : 8 * (i + suc r) ≡ 8 * suc r + 8 * i = omega arith in
    let few : 8 * suc r ≡ 8 * r + 8 = omega arith in
    byte_at_is i (n % 2 ^ (8 * (i + suc r)))
    ∙ ap (λ j. n % 2 ^ j / 2 ^ (8 * i) % 2 ^ 8) bits
    ∙ ap (λ x. x % 2 ^ 8) (field_of n (8 * suc r) (8 * i))
    ∙ ap (λ j. n / 2 ^ (8 * i) % 2 ^ j % 2 ^ 8) few
    ∙ mod-mod-pow (n / 2 ^ (8 * i)) (8 * r) 8
    ∙ sym (byte_at_is i n)

low_bytes : (n m i k : ℕ) → n % 2 ^ (8 * (i + k)) ≡ m % 2 ^ (8 * (i + k)) → bytes_low_first i k n ≡ bytes_low_first i k m
low_bytes n m i zero same = refl
low_bytes n m i (suc k) same =
    let here : byte_at i n ≡ byte_at i m = sym (low_byte n i k) ∙ ap (byte_at i) same ∙ low_byte m i k in
    let more : n % 2 ^ (8 * (suc i + k)) ≡ m % 2 ^ (8 * (suc i + k)) = subst (λ j. n % 2 ^ (8 * j) ≡ m % 2 ^ (8 * j)) (omega arith) same in
    rw (here, low_bytes n m (suc i) k more) refl

take_low : (n i k all : ℕ) → k ≤ all → take k (bytes_low_first i all n) ≡ bytes_low_first i k n
take_low n i zero all few = refl
take_low n i (suc k) zero few = absurd (omega (arith, few))
take_low n i (suc k) (suc all) few = ap (λ bs. byte_at i n ∷ bs) (take_low n (suc i) k all (omega (arith, few)))

-- words with the same low bytes
pub same_low : (n m k : ℕ) → k ≤ 8 → bit_and n (2 ^ (8 * k) - 1) ≡ bit_and m (2 ^ (8 * k) - 1) → take k (to_le_bytes w64 n) ≡ take k (to_le_bytes w64 m)
same_low n m k few same =
    take_low n 0 k 8 few
    ∙ low_bytes n m 0 k (subst (λ j. n % 2 ^ (8 * j) ≡ m % 2 ^ (8 * j)) (omega arith) (sym (and_mask n (8 * k)) ∙ same ∙ and_mask m (8 * k)))
    ∙ sym (take_low m 0 k 8 few)

-- bytes of a text, read as a word, are the word's bytes
pub word_bytes : (text : List ℕ) (place n : ℕ) → place + 8 ≤ length text → ((i : ℕ) → get_or text i 0 < 256) → n ≡ from_le_bytes w64 (take 8 (drop place text)) → to_le_bytes w64 n ≡ take 8 (drop place text)
word_bytes text place n long bytes is =
    let part = take 8 (drop place text) in
    let eight : length part ≡ 8 = length-take-le 8 (drop place text) (omega (arith, length-drop place text, long)) in
    let each : (i : ℕ) → get_or part i 0 < 256 = λ i. elim (cases_lt i 8) [
      | inl low ↦ rw (get_or-take 8 (drop place text) i 0 low, get_or-drop place text i 0) (bytes (place + i))
      | inr high ↦ rw (get_or_past part i 0 (omega (arith, eight, high))) (omega arith)
    ] in
    le_bytes_8 part n eight each is

-- ---- the words of a text

pub BeginsWithWords-read : (text : List ℕ) (words : Words) → 16 ≤ length text → ((i : ℕ) → get_or text i 0 < 256)
    → words.first ≡ from_le_bytes w64 (take 8 (drop 0 text)) → words.last ≡ from_le_bytes w64 (take 8 (drop 8 text)) → BeginsWithWords text words
BeginsWithWords-read text words long bytes first last =
    let a : to_le_bytes w64 words.first ≡ take 8 text = word_bytes text 0 words.first (omega (arith, long)) bytes first in
    let b : to_le_bytes w64 words.last ≡ take 8 (drop 8 text) = word_bytes text 8 words.last (omega (arith, long)) bytes last in
    record {
      behind = drop 8 (drop 8 text);
      is = sym (take-append-drop 8 text)
          ∙ ap (λ xs. xs ++ drop 8 text) (sym a)
          ∙ ap (λ xs. to_le_bytes w64 words.first ++ xs) (sym (take-append-drop 8 (drop 8 text)) ∙ ap (λ xs. xs ++ drop 8 (drop 8 text)) (sym b));
    }

-- a front of two lists and more
take_two : (k : ℕ) (a b c : List ℕ) → length a ≡ 8 → length b ≡ 8 → k ≤ 16 → take k (a ++ (b ++ c)) ≡ take (min k 8) a ++ take (k - 8) b
take_two k a b c la lb few = elim (cases_lt k 8) [
  | inl low ↦
      let least : k ≡ min k 8 = omega (arith, low) in
      let none : 0 ≡ k - 8 = omega (arith, low) in
      take-append-le k a (b ++ c) (omega (arith, low, la))
      ∙ ap (λ j. take j a) least
      ∙ sym (append-nil (take (min k 8) a))
      ∙ ap (λ j. take (min k 8) a ++ take j b) none
  | inr high ↦
      let behind : k ≡ length a + (k - 8) = omega (arith, high, la) in
      ap (λ j. take j (a ++ (b ++ c))) behind
      ∙ take-append-add a (b ++ c) (k - 8)
      ∙ ap (λ xs. a ++ xs) (take-append-le (k - 8) b c (omega (arith, few, lb)))
      ∙ ap (λ xs. xs ++ take (k - 8) b) (sym (take_all (min k 8) a (omega (arith, la, high))))
]

-- texts whose words are equal under the masks of a front begin alike
same_front : (end : ℕ) (text other : List ℕ) (words its : Words) → end ≤ 16 → BeginsWithWords text words → BeginsWithWords other its
    → bit_and words.first (mask_of end) ≡ bit_and its.first (mask_of end) → bit_and words.last (mask_of (end - 8)) ≡ bit_and its.last (mask_of (end - 8))
    → take end text ≡ take end other
same_front end text other words its short a b first last =
    let left : take (min end 8) (to_le_bytes w64 words.first) ≡ take (min end 8) (to_le_bytes w64 its.first) = same_low words.first its.first (min end 8) (omega arith) first in
    let most : min (end - 8) 8 ≡ end - 8 = omega (arith, short) in
    let right : take (end - 8) (to_le_bytes w64 words.last) ≡ take (end - 8) (to_le_bytes w64 its.last) =
    same_low words.last its.last (end - 8) (omega (arith, short)) (subst (λ j. bit_and words.last (2 ^ (8 * j) - 1) ≡ bit_and its.last (2 ^ (8 * j) - 1)) most last) in
    ap (take end) a.is
    ∙ take_two end (to_le_bytes w64 words.first) (to_le_bytes w64 words.last) a.behind refl refl short
    ∙ ap (λ xs. xs ++ take (end - 8) (to_le_bytes w64 words.last)) left
    ∙ ap (λ xs. take (min end 8) (to_le_bytes w64 its.first) ++ xs) right
    ∙ sym (take_two end (to_le_bytes w64 its.first) (to_le_bytes w64 its.last) b.behind refl refl short)
    ∙ sym (ap (take end) b.is)

-- ---- names that are found

-- by the front of a text that begins with the name and a LF
pub FindsName-front : (names : List (List ℕ)) (text word behind : List ℕ) (words : Words) (position end : ℕ) (front : Front)
    → BeginsWithWords text words → text ≡ word ++ 10 ∷ behind → end ≡ length word + 1 → end ≤ 16
    → slice_get names position ≡ Some word → is_name_text word ≡ true → IsFrontOf words position end front → FindsName names front
FindsName-front names text word behind words position end front begins is long short there named its =
    let line : take end text ≡ word ++ 10 ∷ [] =
    ap (take end) (is ∙ sym (append_assoc word (10 ∷ []) behind)) ∙ take_at (word ++ 10 ∷ []) behind end (length-append word (10 ∷ []) ∙ sym long) in
    record {
      short = rw its.end short;
      each = λ other others had has.
          let first : bit_and words.first (mask_of end) ≡ bit_and others.first (mask_of end) =
          subst (λ m. bit_and words.first m ≡ bit_and others.first m) its.first_mask (its.has.first ∙ sym has.first) in
          let last : bit_and words.last (mask_of (end - 8)) ≡ bit_and others.last (mask_of (end - 8)) =
          subst (λ m. bit_and words.last m ≡ bit_and others.last m) its.last_mask (its.has.last ∙ sym has.last) in
          let same : take end text ≡ take end other = same_front end text other words others short begins had first last in
          record {
            word = word;
            there = ap (slice_get names) its.position ∙ there;
            is_name = named;
            front = sym (take-append-drop end other)
                ∙ ap (λ xs. xs ++ drop end other) (sym same ∙ line)
                ∙ append_assoc word (10 ∷ []) (drop end other)
                ∙ ap (λ j. word ++ 10 ∷ drop j other) (sym its.end);
          };
    }

-- by no text
pub FindsName-nowhere : (names : List (List ℕ)) (front : Front) → front.first ≡ 1 → front.first_mask ≡ 0 → front.end ≡ 0 → FindsName names front
FindsName-nowhere names front one no_mask none = record {
  short = omega (arith, none);
  each = λ text words begins has. absurd (omega (arith, has.first, one, no_mask, and_le_r words.first front.first_mask));
}

get_beside : (names more : List (List ℕ)) (position : ℕ) (word : List ℕ) → slice_get names position ≡ Some word → slice_get (names ++ more) position ≡ Some word
get_beside [] more position word there = absurd cc
get_beside (n ∷ ns) more zero word there = there
get_beside (n ∷ ns) more (suc position) word there = get_beside ns more position word there

-- and with more names behind
pub FindsName-more : (names more : List (List ℕ)) (front : Front) → FindsName names front → FindsName (names ++ more) front
FindsName-more names more front finds = record {
  short = finds.short;
  each = λ text words begins has.
      let was = finds.each text words begins has in
      record { word = was.word; there = get_beside names more front.position was.word was.there; is_name = was.is_name; front = was.front };
}
