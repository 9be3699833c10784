-- Lines that pass their tests one after the other.
use Rattle.std.proofs.Common.{◌≡◌, ℕ, zero, suc, ◌+◌, ◌<◌, ◌≤◌, false, cond, eqb, ltb, List, [], ◌∷◌, ◌++◌, length, take, get_or, Some, Contains, refl, sym, ap, subst, ◌∙◌, arith, append_assoc}
use Rattle.std.specs.List.{All, flat_map, range_with_len, slice_get, sum_by}
use Rattle.std.proofs.lemmas.Bool.{lt-ltb, ne_eqb}
use Rattle.std.proofs.lemmas.List.{append-nil, length-append, take-append-le}
use Rattle.std.proofs.lemmas.List.Elements.{All-head, All-tail, All-take, Contains-get_or}
use Rattle.std.proofs.lemmas.List.Sums.{sum_by-append, sum_by-cons}
use Rattle.std.proofs.lemmas.Option.{none-some, same_Some}
use Rattle.line_text.specs.Rules.{was_read}
use Rattle.line_text.specs.Accepted.{HasPassed, IsAccepted}
use Rattle.line_text.proofs.Items.{no_fault}
use Rattle.type_text.specs.declared.type_line.TypeLine.{TypeLine}
use Rattle.type_text.specs.declared.type_line.TypeLine.TheVariants.{End}
use Rattle.type_text.specs.TypeLines.{rank_of, type_rules}

-- each of these lines passes its tests after all lines before it
abbrev pub Follow : List TypeLine → List TypeLine → Type 0
Follow before [] = Unit {0}
Follow before (x ∷ xs) = HasPassed type_rules before x × Follow (before ++ x ∷ []) xs

-- of lines and then others
pub follow_append : (before xs ys : List TypeLine) → Follow before xs → Follow (before ++ xs) ys → Follow before (xs ++ ys)
follow_append before [] ys h k = rw append-nil at k
follow_append before (x ∷ xs) ys h k = (h.0, follow_append (before ++ x ∷ []) xs ys h.1 (subst (λ lines. Follow lines ys) (sym (append_assoc before (x ∷ []) xs)) k))

-- at a place
follow_at : (before xs : List TypeLine) (n : ℕ) (x : TypeLine) → Follow before xs → slice_get xs n ≡ Some x → HasPassed type_rules (before ++ take n xs) x
follow_at before [] n x h e = absurd (none-some x e)
follow_at before (y ∷ xs) zero x h e = rw append-nil (subst (HasPassed type_rules before) (same_Some y x e) h.0)
follow_at before (y ∷ xs) (suc n) x h e = subst (λ lines. HasPassed type_rules lines x) (append_assoc before (y ∷ []) (take n xs)) (follow_at (before ++ y ∷ []) xs n x h.1 e)

-- lines that are put together by a function of the numbers in turn, where a fact of the number and the lines so far is kept
pub follow_range : (P : ℕ → List TypeLine → Type 0) (f : ℕ → List TypeLine) (stop : ℕ)
    → ((i : ℕ) (before : List TypeLine) → i < stop → P i before → Follow before (f i) × P (i + 1) (before ++ f i))
    → (n start : ℕ) (before : List TypeLine) → start + n ≡ stop → P start before
    → Follow before (flat_map f (range_with_len start n)) × P stop (before ++ flat_map f (range_with_len start n))
follow_range P f stop step zero start before e h =
    let here : start ≡ stop = omega (arith, e) in
    (tt, rw append-nil (subst (λ i. P i before) here h))
follow_range P f stop step (suc n) start before e h =
    let one = step start before (omega (arith, e)) h in
    let more = follow_range P f stop step n (start + 1) (before ++ f start) (omega (arith, e)) one.1 in
    (follow_append before (f start) (flat_map f (range_with_len (start + 1) n)) one.0 more.0, subst (P stop) (append_assoc before (f start) (flat_map f (range_with_len (start + 1) n))) more.1)

-- ---- the last line

-- a fact of each member
pub All-from_members : {X : Type 0} (P : X → Type 0) (xs : List X) → ((x : X) → Contains xs x → P x) → All P xs
All-from_members P xs h = λ k d below. h (get_or xs k d) (Contains-get_or xs k d below)

-- the number of lines of the last rank
abbrev ends : List TypeLine → ℕ
ends lines = sum_by (λ x. cond (eqb (rank_of x) 9) 1 0) lines

-- lines of lower ranks have none
no_ends : (lines : List TypeLine) → All (λ x. rank_of x < 9) lines → ends lines ≡ 0
no_ends [] h = refl
no_ends (x ∷ lines) h =
    let other : eqb (rank_of x) 9 ≡ false = ne_eqb (rank_of x) 9 (λ e. omega (arith, e, All-head (λ y. rank_of y < 9) x lines h)) in
    sum_by-cons (λ y. cond (eqb (rank_of y) 9) 1 0) x lines ∙ rw other (omega (arith, no_ends lines (All-tail (λ y. rank_of y < 9) x lines h)))

-- lines of lower ranks that follow, and then `end`, are accepted
pub accepted_with_end : (lines : List TypeLine) → All (λ x. rank_of x < 9) lines → Follow [] (lines ++ End ∷ []) → IsAccepted type_rules (lines ++ End ∷ [])
accepted_with_end lines low h = record {
  each = λ n x at. no_fault type_rules (take n (lines ++ End ∷ [])) x (follow_at [] (lines ++ End ∷ []) n x h at);
  before_end = λ n below.
      let within : n ≤ length lines = omega (arith, below, length-append lines (End ∷ [])) in
      ap (λ front. was_read type_rules front 9) (take-append-le n lines (End ∷ []) within) ∙ ap (ltb 0) (no_ends (take n lines) (All-take (λ x. rank_of x < 9) n lines low));
  has_ended = lt-ltb 0 (ends (lines ++ End ∷ [])) (omega (arith, sum_by-append (λ x. cond (eqb (rank_of x) 9) 1 0) lines (End ∷ [])));
}
