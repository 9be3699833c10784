-- Lines that pass their tests one after the other.
use Rattle.std.proofs.Common.{◌≡◌, ℕ, zero, suc, ◌+◌, ◌<◌, ◌≤◌, false, cond, eqb, ltb, List, [], ◌∷◌, ◌++◌, length, take, Some, sym, ap, subst, ◌∙◌, refl, arith, append_assoc}
use Rattle.std.specs.List.{AllByRecursion, list_any, slice_get, sum_by}
use Rattle.std.proofs.lemmas.Bool.{lt-ltb, ne_eqb}
use Rattle.std.proofs.lemmas.List.{append-nil, length-append, take-append-le}
use Rattle.std.proofs.lemmas.List.Sums.{sum_by-append, sum_by-cons}
use Rattle.std.proofs.lemmas.Option.{none-some, same_Some}
use Rattle.line_text.specs.Rules.{was_read}
use Rattle.line_text.specs.Accepted.{HasPassed, IsAccepted}
use Rattle.line_text.proofs.Items.{no_fault}
use Rattle.number_text.specs.declared.number_line.NumberLine.{NumberLine}
use Rattle.number_text.specs.declared.number_line.NumberLine.TheVariants.{End}
use Rattle.number_text.specs.NumberLines.{rank_of, number_rules}

-- each of these lines passes its tests after all lines before it
abbrev pub Follow : List NumberLine → List NumberLine → Type 0
Follow before [] = Unit {0}
Follow before (x ∷ xs) = HasPassed number_rules before x × Follow (before ++ x ∷ []) xs

-- of lines and then others
pub follow_append : (before xs ys : List NumberLine) → Follow before xs → Follow (before ++ xs) ys → Follow before (xs ++ ys)
follow_append before [] ys h k = rw append-nil at k
follow_append before (x ∷ xs) ys h k = (h.0, follow_append (before ++ x ∷ []) xs ys h.1 (subst (λ lines. Follow lines ys) (sym (append_assoc before (x ∷ []) xs)) k))

-- at a place
follow_at : (before xs : List NumberLine) (n : ℕ) (x : NumberLine) → Follow before xs → slice_get xs n ≡ Some x → HasPassed number_rules (before ++ take n xs) x
follow_at before [] n x h e = absurd (none-some x e)
follow_at before (y ∷ xs) zero x h e = rw append-nil (subst (HasPassed number_rules before) (same_Some y x e) h.0)
follow_at before (y ∷ xs) (suc n) x h e = subst (λ lines. HasPassed number_rules lines x) (append_assoc before (y ∷ []) (take n xs)) (follow_at (before ++ y ∷ []) xs n x h.1 e)

-- no line is a twin of another
pub no_twins : (lines : List NumberLine) → list_any (λ y. false) lines ≡ false
no_twins [] = refl
no_twins (x ∷ lines) = no_twins lines

-- how many lines are of a rank
abbrev pub count : ℕ → List NumberLine → ℕ
count rank lines = sum_by (λ x. cond (eqb (rank_of x) rank) 1 0) lines

-- one more line in front
pub count-cons : (rank : ℕ) (x : NumberLine) (lines : List NumberLine) → count rank (x ∷ lines) ≡ cond (eqb (rank_of x) rank) 1 0 + count rank lines
count-cons rank x lines = sum_by-cons (λ y. cond (eqb (rank_of y) rank) 1 0) x lines

-- lines of lower ranks have none of the last
no_ends : (lines : List NumberLine) → AllByRecursion (λ x. rank_of x < 9) lines → count 9 lines ≡ 0
no_ends [] h = refl
no_ends (x ∷ lines) h =
    let other : eqb (rank_of x) 9 ≡ false = ne_eqb (rank_of x) 9 (λ e. omega (arith, e, h.0)) in
    count-cons 9 x lines ∙ rw other (omega (arith, no_ends lines h.1))

-- so has a front of them
low_take : (n : ℕ) (lines : List NumberLine) → AllByRecursion (λ x. rank_of x < 9) lines → AllByRecursion (λ x. rank_of x < 9) (take n lines)
low_take zero lines h = tt
low_take (suc n) [] h = tt
low_take (suc n) (x ∷ lines) h = (h.0, low_take n lines h.1)

-- lines of lower ranks that follow, and then `end`, are accepted
pub accepted_with_end : (lines : List NumberLine) → AllByRecursion (λ x. rank_of x < 9) lines → Follow [] (lines ++ End ∷ []) → IsAccepted number_rules (lines ++ End ∷ [])
accepted_with_end lines low h = record {
  each = λ n x at. no_fault number_rules (take n (lines ++ End ∷ [])) x (follow_at [] (lines ++ End ∷ []) n x h at);
  before_end = λ n below.
      let within : n ≤ length lines = omega (arith, below, length-append lines (End ∷ [])) in
      ap (λ front. was_read number_rules front 9) (take-append-le n lines (End ∷ []) within) ∙ ap (ltb 0) (no_ends (take n lines) (low_take n lines low));
  has_ended = lt-ltb 0 (count 9 (lines ++ End ∷ [])) (omega (arith, sum_by-append (λ x. cond (eqb (rank_of x) 9) 1 0) lines (End ∷ [])));
}
