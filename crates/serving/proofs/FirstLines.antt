-- Lines at the beginning of a text.
use Rattle.std.proofs.Common.{◌≡◌, ◌∙◌, ◌⊎◌, inl, inr, ℕ, true, false, ◌||◌, List, [], ◌∷◌, ◌++◌, drop, get_or, refl, sym, ap, ap₂, subst}
use Rattle.std.proofs.lemmas.List.{append_assoc}
use Rattle.std.specs.Prelude.{◌==◌}
use Rattle.std.specs.List.{AllByRecursion, flat_map}
use Rattle.std.proofs.lemmas.Bool.{or_parts}
use Rattle.serving.specs.Lines.{AreLines, ended_line, has_lf}

lf-there : (line rest : List ℕ) → has_lf (line ++ 10 ∷ rest) ≡ true
lf-there [] rest = refl
lf-there (b ∷ line) rest = elim (b == 10) as (λ v. (v || has_lf (line ++ 10 ∷ rest)) ≡ true) [ true ↦ refl | false ↦ lf-there line rest ]

-- a line ends at the first LF
same-line : (line other rest more : List ℕ) → has_lf line ≡ false → has_lf other ≡ false → line ++ 10 ∷ rest ≡ other ++ 10 ∷ more → (line ≡ other) × (rest ≡ more)
same-line [] [] rest more whole none e = (refl, ap (drop 1) e)
same-line [] (b ∷ other) rest more whole none e =
    absurd (let it : true ≡ false = subst (λ n. ((n == 10) || has_lf other) ≡ false) (sym (ap (λ xs. get_or xs 0 0) e)) none in cc)
same-line (b ∷ line) [] rest more whole none e =
    absurd (let it : true ≡ false = subst (λ n. ((n == 10) || has_lf line) ≡ false) (ap (λ xs. get_or xs 0 0) e) whole in cc)
same-line (b ∷ line) (c ∷ other) rest more whole none e =
    let same = same-line line other rest more (or_parts (b == 10) (has_lf line) whole).1 (or_parts (c == 10) (has_lf other) none).1 (ap (drop 1) e) in
    (ap₂ (λ x xs. x ∷ xs) (ap (λ xs. get_or xs 0 0) e) same.0, same.1)

-- the bytes of lines and what is after them, from the end of the first line on
first-cut : (line : List ℕ) (lines : List (List ℕ)) (rest : List ℕ) → flat_map ended_line (line ∷ lines) ++ rest ≡ line ++ 10 ∷ (flat_map ended_line lines ++ rest)
first-cut line lines rest = append_assoc (ended_line line) (flat_map ended_line lines) rest ∙ append_assoc line (10 ∷ []) (flat_map ended_line lines ++ rest)

-- of lines at the beginning of a text, and of others there, the one are the first of the other
either-in : (lines all : List (List ℕ)) (tail rest : List ℕ) → AllByRecursion (λ line. has_lf line ≡ false) lines → AllByRecursion (λ line. has_lf line ≡ false) all
    → flat_map ended_line lines ++ tail ≡ flat_map ended_line all ++ rest → ((later : List (List ℕ)) × (all ≡ lines ++ later)) ⊎ ((later : List (List ℕ)) × (lines ≡ all ++ later))
either-in [] all tail rest whole every e = inl (all, refl)
either-in (line ∷ lines) [] tail rest whole every e = inr (line ∷ lines, refl)
either-in (line ∷ lines) (other ∷ all) tail rest whole every e =
    let same = same-line line other (flat_map ended_line lines ++ tail) (flat_map ended_line all ++ rest) whole.0 every.0 (sym (first-cut line lines tail) ∙ e ∙ first-cut other all rest) in
    elim (either-in lines all tail rest whole.1 every.1 same.1) [
      | inl more ↦ inl (more.0, ap₂ (λ x xs. x ∷ xs) (sym same.0) more.1)
      | inr more ↦ inr (more.0, ap₂ (λ x xs. x ∷ xs) same.0 more.1)
    ]

pub either-lines : (bytes more rest taken : List ℕ) (lines : List (List ℕ)) (half : List ℕ) (all : List (List ℕ)) (other : List ℕ) → AreLines bytes lines half → AreLines taken all other → taken ++ rest ≡ bytes ++ more
    → ((later : List (List ℕ)) × (all ≡ lines ++ later)) ⊎ ((later : List (List ℕ)) × (lines ≡ all ++ later))
either-lines bytes more rest taken lines half all other first second same =
    either-in lines all (half ++ more) (other ++ rest) first.whole second.whole
    (sym (append_assoc (flat_map ended_line lines) half more) ∙ (ap (λ bs. bs ++ more) (sym first.text) ∙ (sym same ∙ (ap (λ bs. bs ++ rest) second.text ∙ append_assoc (flat_map ended_line all) other rest))))
