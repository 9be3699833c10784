-- How many items are of a rank.
use Rattle.std.proofs.Common.{◌≡◌, ℕ, ◌+◌, ◌<◌, ◌≤◌, cond, eqb, List, [], ◌∷◌, ◌++◌, length, get_or, set, refl, sym, ap, ◌∙◌, inl, inr, arith}
use Rattle.std.proofs.lemmas.Bool.{eq-eqb, ne_eqb, cases_eq}
use Rattle.std.proofs.lemmas.List.{length-set, get_or-set_same, get_or-set_other}
use Rattle.std.proofs.lemmas.List.Sums.{sum_by_push, count_by-le-length}
use Rattle.line_text.specs.Rules.{Rules, IsCounted, count_at}

-- one more item
pub count_at_push : {Item : Type 0} (g : Rules Item) (items : List Item) (x : Item) (rank : ℕ) → count_at g (items ++ x ∷ []) rank ≡ count_at g items rank + cond (eqb (g.rank_of x) rank) 1 0
count_at_push g items x rank = sum_by_push (λ y. cond (eqb (g.rank_of y) rank) 1 0) items x

-- no more than there are items
pub count_at-le : {Item : Type 0} (g : Rules Item) (items : List Item) (rank : ℕ) → count_at g items rank ≤ length items
count_at-le g items rank = count_by-le-length (λ x. eqb (g.rank_of x) rank) items

-- the counts with one more at an item's rank are those of the items with it
pub IsCounted-push : {Item : Type 0} (g : Rules Item) (items after : List Item) (counts : List ℕ) (x : Item) (r n : ℕ) → IsCounted g items counts → r ≡ g.rank_of x → r < length g.sections → n ≡ get_or counts r 0 + 1 → after ≡ items ++ x ∷ [] → IsCounted g after (set counts r n)
IsCounted-push g items after counts x r n k is known more appended = record {
  each_rank = length-set counts r n ∙ k.each_rank;
  counted = λ rank below.
      rw (appended, count_at_push g items x rank, ← is) (elim (cases_eq rank r) [
        | inl e ↦ rw (e, get_or-set_same counts r n 0 (omega (arith, k.each_rank)), eq-eqb r r refl) (more ∙ ap (λ m. m + 1) (k.counted r known))
        | inr e ↦ rw (get_or-set_other counts r rank n 0 e, ne_eqb r rank (λ same. e (sym same))) (omega (arith, k.counted rank below))
      ]);
}
