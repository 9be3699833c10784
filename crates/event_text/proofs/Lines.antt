-- A line is cut into its words, and a text into its lines.
use Rattle.std.proofs.Common.{◌≡◌, refl, sym, ap, ℕ, suc, ◌<◌, List, [], ◌∷◌, ◌++◌, map, length, eqb, false, lit<, arith, ◌∙◌, append_assoc}
use Rattle.std.specs.List.{All, AllByRecursion, join_with_byte, slice_split, flat_map}
use Rattle.type_table.proofs.Elements.{each-append, each-weaker}
use Rattle.std.proofs.lemmas.Bool.{ne_eqb}
use Rattle.std.proofs.lemmas.List.Elements.{All-from_recursion}
use Rattle.std.proofs.lemmas.List.Splits.{slice_split_at, slice_split_none}

-- bytes above c aren't c
lacks : (c : ℕ) (bs : List ℕ) → AllByRecursion (λ b. c < b) bs → All (λ b. eqb b c ≡ false) bs
lacks c bs above = All-from_recursion (λ b. eqb b c ≡ false) bs (each-weaker (λ b h. ne_eqb b c (λ is. omega (arith, h, is))) bs above)

-- words that are joined are cut again
pub words-cut : (word : List ℕ) (more : List (List ℕ)) → AllByRecursion (λ w. AllByRecursion (λ b. 32 < b) w) (word ∷ more)
    → slice_split (λ b. eqb b 32) (join_with_byte 32 (word ∷ more)) ≡ word ∷ more
words-cut word [] above = slice_split_none (λ b. eqb b 32) word (lacks 32 word above.0)
words-cut word (next ∷ more) above =
    slice_split_at (λ b. eqb b 32) word 32 (join_with_byte 32 (next ∷ more)) (lacks 32 word above.0) refl ∙ ap (λ ws. word ∷ ws) (words-cut next more above.1)

-- and have no LF
pub joined-above : (words : List (List ℕ)) → AllByRecursion (λ w. AllByRecursion (λ b. 32 < b) w) words → AllByRecursion (λ b. 10 < b) (join_with_byte 32 words)
joined-above [] above = tt
joined-above (word ∷ []) above = each-weaker (λ b h. omega (arith, h)) word above.0
joined-above (word ∷ next ∷ more) above = each-append (λ b. 10 < b) word (32 ∷ join_with_byte 32 (next ∷ more)) (each-weaker (λ b h. omega (arith, h)) word above.0) (lit< tt, joined-above (next ∷ more) above.1)

-- a line before others is cut off
pub line-cut : (line rest : List ℕ) → AllByRecursion (λ b. 10 < b) line → slice_split (λ b. eqb b 10) ((line ++ 10 ∷ []) ++ rest) ≡ line ∷ slice_split (λ b. eqb b 10) rest
line-cut line rest above = ap (slice_split (λ b. eqb b 10)) (append_assoc line (10 ∷ []) rest) ∙ slice_split_at (λ b. eqb b 10) line 10 rest (lacks 10 line above) refl
