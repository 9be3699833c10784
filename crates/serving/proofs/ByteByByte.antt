-- Lines that are asked byte by byte.
use Rattle.std.proofs.Common.{◌≡◌, ◌∙◌, ◌⊎◌, inl, inr, ℕ, ◌<◌, ◌≤◌, true, false, ◌||◌, List, [], ◌∷◌, ◌++◌, length, take, refl, sym, ap, ap₂, subst, arith}
use Rattle.std.proofs.lemmas.List.{append_assoc, append-nil, length-append, length-take-le, take-append-le, take_all}
use Rattle.std.proofs.lemmas.List.Folds.{list_any-append}
use Rattle.std.proofs.lemmas.Grind.{flat_map-append}
use Rattle.std.proofs.lemmas.Bool.{leb-false, leb-true, lt-leb, lt-ltb}
use Rattle.std.specs.Prelude.{◌==◌, nat_le, nat_lt, if◌then◌else◌}
use Rattle.std.specs.List.{flat_map}
use Rattle.type_table.proofs.Elements.{each-append}
use Rattle.request_text.specs.Requests.{asked_by, untagged}
use Rattle.request_text.specs.declared.fault.RequestFault.TheVariants.{TooLong}
use Rattle.serving.specs.Lines.{AreLines, ended_line, has_lf}

-- a byte more of the line that isn't whole yet
pub byte-more : {bytes : List ℕ} {lines : List (List ℕ)} {half : List ℕ} (b : ℕ) → (b == 10) ≡ false → AreLines bytes lines half → AreLines (bytes ++ b ∷ []) lines (half ++ b ∷ [])
byte-more {bytes} {lines} {half} b other asked = record {
  text = ap (λ bs. bs ++ b ∷ []) asked.text ∙ append_assoc (flat_map ended_line lines) half (b ∷ []);
  whole = asked.whole;
  within = list_any-append (λ b. b == 10) half (b ∷ []) ∙ ap₂ (λ x y. x || (y || false)) asked.within other;
}

-- the LF that ends it
pub line-more : {bytes : List ℕ} {lines : List (List ℕ)} {half : List ℕ} (b : ℕ) → b ≡ 10 → AreLines bytes lines half → AreLines (bytes ++ b ∷ []) (lines ++ half ∷ []) []
line-more {bytes} {lines} {half} b is asked = record {
  text = ap₂ (λ bs b. bs ++ b ∷ []) asked.text is ∙ (append_assoc (flat_map ended_line lines) half (10 ∷ [])
      ∙ (ap (λ bs. flat_map ended_line lines ++ bs) (sym (append-nil (half ++ 10 ∷ []))) ∙ (sym (flat_map-append ended_line lines (half ∷ [])) ∙ sym (append-nil (flat_map ended_line (lines ++ half ∷ []))))));
  whole = each-append (λ line. has_lf line ≡ false) lines (half ∷ []) asked.whole (asked.within, tt);
  within = refl;
}

shorter-or-not : (n m : ℕ) → (m < n) ⊎ (n ≤ m)
shorter-or-not n m = elim (nat_lt m n) as (λ b. nat_lt m n ≡ b → (m < n) ⊎ (n ≤ m)) [ true ↦ λ is. inl (omega (arith, leb-true, is)) | false ↦ λ is. inr (omega (arith, leb-false, is)) ] refl

-- the first bytes of a line are kept as they come
pub kept-more : (n : ℕ) (half : List ℕ) (b : ℕ) → (if nat_lt (length (take n half)) n then take n half ++ b ∷ [] else take n half) ≡ take n (half ++ b ∷ [])
kept-more n half b = elim (shorter-or-not n (length half)) [
  | inl short ↦
      let all : take n half ≡ half = take_all n half (omega arith) in
      let test : nat_lt (length (take n half)) n ≡ true = lt-ltb _ _ (subst (λ xs. length xs < n) (sym all) short) in
      rw test (ap (λ xs. xs ++ b ∷ []) all ∙ sym (take_all n (half ++ b ∷ []) (omega (arith, length-append half (b ∷ [])))))
  | inr long ↦
      let test : nat_lt (length (take n half)) n ≡ false = lt-leb _ _ (omega (arith, length-take-le n half long)) in
      rw test (sym (take-append-le n half (b ∷ []) long))
]

too-long : (line : List ℕ) → 4095 < length line → asked_by line ≡ untagged TooLong
too-long line long = let test : nat_le (length line) 4095 ≡ false = lt-leb _ _ long in rw test

-- lines that ask the same: they are one, or both are too long
abbrev pub AskSame : List ℕ → List ℕ → Type 0
AskSame kept half = (kept ≡ half) ⊎ ((asked_by kept ≡ untagged TooLong) × (asked_by half ≡ untagged TooLong))

-- as a line and its first 4096 bytes
pub same-kept : (half : List ℕ) → AskSame (take 4096 half) half
same-kept half = elim (shorter-or-not 4096 (length half)) [
  | inl short ↦ inl (take_all 4096 half (omega arith))
  | inr long ↦ inr (too-long (take 4096 half) (omega (arith, length-take-le 4096 half long)), too-long half (omega arith))
]

-- the first 4096 bytes of a line say what it asks
pub asked-kept : (half : List ℕ) → asked_by (take 4096 half) ≡ asked_by half
asked-kept half = elim (shorter-or-not 4096 (length half)) [
  | inl short ↦ ap asked_by (take_all 4096 half (omega arith))
  | inr long ↦ too-long (take 4096 half) (omega (arith, length-take-le 4096 half long)) ∙ sym (too-long half (omega arith))
]
