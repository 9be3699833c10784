-- Lines that pass their tests one after the other.
use Rattle.std.proofs.Common.{◌≡◌, ℕ, zero, suc, ◌≤◌, true, false, cond, not, ◌&&◌, eqb, ltb, List, [], ◌∷◌, ◌++◌, length, take, Option, Some, None, refl, sym, ap, subst, ◌∙◌, arith, append_assoc}
use Rattle.std.specs.List.{AllByRecursion, slice_get, sum_by}
use Rattle.std.proofs.lemmas.Bool.{lt-ltb, le-ltb, ne_eqb, or_from, or_right, and_left}
use Rattle.std.proofs.lemmas.List.{append-nil, length-append, take-append-le}
use Rattle.std.proofs.lemmas.List.Sums.{sum_by-append, sum_by-cons}
use Rattle.std.proofs.lemmas.Option.{none-some, same_Some}
use Rattle.type_table.proofs.Elements.{each-found, each-take}
use Rattle.line_text.specs.Rules.{was_read, last_item}
use Rattle.line_text.specs.LineTests.{item_fault, is_late, is_single, ascends}
use Rattle.line_text.specs.Accepted.{HasPassed, IsAccepted}
use Rattle.store_text.specs.Body.{store_rules, rank_of, sections}
use Rattle.store_text.specs.declared.line.Line.{Line}
use Rattle.store_text.specs.declared.line.Line.TheVariants.{End}
use Rattle.history_text.specs.declared.event_line.EventLine.{EventLine}
use Rattle.history_text.specs.Events.{history_body}

-- a line of a history
abbrev pub HistoryLine : Type 0
HistoryLine = Line EventLine

-- how many lines are of a rank
abbrev pub count : ℕ → List HistoryLine → ℕ
count rank lines = sum_by (λ x. cond (eqb (rank_of x) rank) 1 0) lines

-- no line is of a rank above this one
abbrev pub AreUpTo : ℕ → List HistoryLine → Type 0
AreUpTo rank lines = AllByRecursion (λ x. rank_of x ≤ rank) lines

-- each of these lines passes its tests after all lines before it
abbrev pub Follow : Option ℕ → List HistoryLine → List HistoryLine → Type 0
Follow says before [] = Unit {0}
Follow says before (x ∷ xs) = HasPassed (store_rules history_body says) before x × Follow says (before ++ x ∷ []) xs

-- of lines and then others
pub follow_append : (says : Option ℕ) (before xs ys : List HistoryLine) → Follow says before xs → Follow says (before ++ xs) ys → Follow says before (xs ++ ys)
follow_append says before [] ys h k = rw append-nil at k
follow_append says before (x ∷ xs) ys h k = (h.0, follow_append says (before ++ x ∷ []) xs ys h.1 (subst (λ lines. Follow says lines ys) (sym (append_assoc before (x ∷ []) xs)) k))

-- at a place
follow_at : (says : Option ℕ) (before xs : List HistoryLine) (n : ℕ) (x : HistoryLine) → Follow says before xs → slice_get xs n ≡ Some x → HasPassed (store_rules history_body says) (before ++ take n xs) x
follow_at says before [] n x h e = absurd (none-some x e)
follow_at says before (y ∷ xs) zero x h e = rw append-nil (subst (HasPassed (store_rules history_body says) before) (same_Some y x e) h.0)
follow_at says before (y ∷ xs) (suc n) x h e = subst (λ lines. HasPassed (store_rules history_body says) lines x) (append_assoc before (y ∷ []) (take n xs)) (follow_at says (before ++ y ∷ []) xs n x h.1 e)

-- an item that passes each test has no fault
no_fault : (says : Option ℕ) (before : List HistoryLine) (x : HistoryLine) → HasPassed (store_rules history_body says) before x → item_fault (store_rules history_body says) before x ≡ None
unfolding item_fault
no_fault says before x h = rw (h.in_order, h.lacks_none, h.misses_none, h.in_range, h.has_room, h.ascending, h.no_twin) refl

-- ---- the last line

-- lines of lower ranks have none of the last
no_ends : (lines : List HistoryLine) → AreUpTo 3 lines → count 4 lines ≡ 0
no_ends [] h = refl
no_ends (x ∷ lines) h =
    let other : eqb (rank_of x) 4 ≡ false = ne_eqb (rank_of x) 4 (λ e. omega (arith, e, h.0)) in
    sum_by-cons (λ y. cond (eqb (rank_of y) 4) 1 0) x lines ∙ rw other (omega (arith, no_ends lines h.1))

-- lines of lower ranks that follow, and then `end`, are accepted
pub accepted_with_end : (says : Option ℕ) (lines : List HistoryLine) → AreUpTo 3 lines → Follow says [] (lines ++ End ∷ []) → IsAccepted (store_rules history_body says) (lines ++ End ∷ [])
accepted_with_end says lines low h = record {
  each = λ n x at. no_fault says (take n (lines ++ End ∷ [])) x (follow_at says [] (lines ++ End ∷ []) n x h at);
  before_end = λ n below.
      let within : n ≤ length lines = omega (arith, below, length-append lines (End ∷ [])) in
      ap (λ front. was_read (store_rules history_body says) front 4) (take-append-le n lines (End ∷ []) within) ∙ ap (ltb 0) (no_ends (take n lines) (each-take (λ x. rank_of x ≤ 3) n lines low));
  has_ended = lt-ltb 0 (count 4 (lines ++ End ∷ [])) (omega (arith, sum_by-append (λ x. cond (eqb (rank_of x) 4) 1 0) lines (End ∷ [])));
}

-- ---- tests after lines of no higher rank

-- the last of lines of no rank above this one
last_low : (rank : ℕ) (before : List HistoryLine) (y : HistoryLine) → AreUpTo rank before → last_item before ≡ Some y → rank_of y ≤ rank
last_low rank before y h at = each-found (λ x. rank_of x ≤ rank) before _ y h at

-- a line after lines of no higher rank isn't late, where its section may have several lines
pub not_late : (says : Option ℕ) (before : List HistoryLine) (x : HistoryLine) → AreUpTo (rank_of x) before → is_single (slice_get (sections false says) (rank_of x)) ≡ false
    → is_late (store_rules history_body says) (last_item before) x ≡ false
not_late says before x h several = by_last (last_item before) (λ y at. last_low (rank_of x) before y h at)
  where
    by_last : (last : Option HistoryLine) → ((y : HistoryLine) → last ≡ Some y → rank_of y ≤ rank_of x) → is_late (store_rules history_body says) last x ≡ false
    by_last None low = refl
    by_last (Some y) low =
        let first : ltb (rank_of x) (rank_of y) ≡ false = le-ltb (rank_of x) (rank_of y) (low y refl) in
        rw (first, several) (and_false (eqb (rank_of x) (rank_of y)))
      where
        and_false : (b : _) → (b && false) ≡ false
        and_false true = refl
        and_false false = refl

-- nor is one after lines of lower ranks
pub not_late_single : (says : Option ℕ) (before : List HistoryLine) → AreUpTo 3 before → is_late (store_rules history_body says) (last_item before) End ≡ false
not_late_single says before h = by_last (last_item before) (λ y at. last_low 3 before y h at)
  where
    by_last : (last : Option HistoryLine) → ((y : HistoryLine) → last ≡ Some y → rank_of y ≤ 3) → is_late (store_rules history_body says) last End ≡ false
    by_last None low = refl
    by_last (Some y) low =
        let rank = rank_of y in
        let below : rank ≤ 3 = low y refl in
        or_from (ltb 4 rank) (eqb 4 rank && true) (le-ltb 4 rank (omega (arith, below))) (and_left (eqb 4 rank) true (ne_eqb 4 rank (λ e. omega (arith, e, below))))

-- no line has a key, so each ascends
pub ascending : (says : Option ℕ) (before : List HistoryLine) (x : HistoryLine) → ascends (store_rules history_body says) (last_item before) x ≡ true
ascending says before x = by_last (last_item before)
  where
    by_last : (last : Option HistoryLine) → ascends (store_rules history_body says) last x ≡ true
    by_last None = refl
    by_last (Some y) = or_right (not (eqb (rank_of x) (rank_of y))) true refl
