-- The items of a text with a value are accepted.
use Rattle.std.proofs.Common.{◌≡◌, ℕ, ◌<◌, ◌≤◌, Bool, true, false, cond, eqb, List, [], ◌∷◌, ◌++◌, length, take, Option, Some, None, Result, Ok, Err, refl, sym, ap, ◌∙◌, inl, inr, arith, append_assoc}
use Rattle.std.specs.Option.{option_to_list, option_or}
use Rattle.std.specs.Result.{result_ok}
use Rattle.std.specs.List.{slice_get}
use Rattle.std.proofs.lemmas.Bool.{cases_lt}
use Rattle.std.proofs.lemmas.List.{append-nil, length-append, take_at, take-append-le}
use Rattle.std.proofs.lemmas.Option.{slice_get_within}
use Rattle.type_table.proofs.Elements.{slice_get-front}
use Rattle.line_text.specs.Text.{TextLine, lines_of, content_of}
use Rattle.line_text.specs.Rules.{Rules, item_in, items_of, was_read, end_rank}
use Rattle.line_text.specs.LineTests.{item_fault, parsed_fault, words_fault, form_fault, line_fault}
use Rattle.line_text.specs.Outcome.{outcome_of, refusal_at, ArePassed}
use Rattle.line_text.specs.Accepted.{IsAccepted}
use Rattle.line_text.specs.declared.fault.FaultKind.{FaultKind}
use Rattle.line_text.specs.declared.fault.FaultKind.TheVariants.{AfterEnd}
use Rattle.line_text.proofs.Places.{slice_get_at, refusal_at_here, IsOutcome-always}
use Rattle.line_text.proofs.Reading.{items_of_more}

-- each item has passed its tests after those before it, and none comes after an `end`
pub record Follow {Item : Type 0} (g : Rules Item) (items : List Item) : Type 0 where
  pub each : (n : ℕ) (x : Item) → slice_get items n ≡ Some x → item_fault g (take n items) x ≡ None
  pub before_end : (n : ℕ) → n < length items → was_read g (take n items) (end_rank g) ≡ false

-- the last place of a list with one more
last_place : {X : Type 0} (xs : List X) (x y : X) (n : ℕ) → length xs ≤ n → slice_get (xs ++ x ∷ []) n ≡ Some y → (n ≡ length xs) × (x ≡ y)
last_place xs x y n past e =
    let n_is : n ≡ length xs = omega (arith, slice_get_within (xs ++ x ∷ []) n y e, length-append xs (x ∷ [])) in
    let found : Some x ≡ Some y = sym (slice_get_at xs x []) ∙ ap (slice_get (xs ++ x ∷ [])) (sym n_is) ∙ e in
    (n_is, cc)

-- an item that passes follows the others
Follow-push : {Item : Type 0} (g : Rules Item) (items : List Item) (x : Item) → Follow g items → was_read g items (end_rank g) ≡ false → item_fault g items x ≡ None → Follow g (items ++ x ∷ [])
Follow-push g items x h unended none = record {
  each = λ n y at.
      elim (cases_lt n (length items)) [
        | inl below ↦ rw (take-append-le n items (x ∷ []) (omega arith)) (h.each n y (sym (slice_get-front items (x ∷ []) n below) ∙ at))
        | inr past ↦
            let last = last_place items x y n past at in
            rw (take_at items (x ∷ []) n (sym last.0), ← last.1) none
      ];
  before_end = λ n within.
      elim (cases_lt n (length items)) [
        | inl below ↦ rw (take-append-le n items (x ∷ []) (omega arith)) (h.before_end n below)
        | inr past ↦ rw (take_at items (x ∷ []) n (omega (arith, length-append items (x ∷ [])))) unended
      ];
}

-- a parsed line that passed
Follow-parsed : {Item : Type 0} (g : Rules Item) (items : List Item) (parsed : Result Item FaultKind) → Follow g items → was_read g items (end_rank g) ≡ false → parsed_fault g items parsed ≡ None → Follow g (items ++ option_to_list (result_ok parsed))
Follow-parsed g items (Ok x) h unended none = Follow-push g items x h unended none
Follow-parsed g items (Err kind) h unended none = absurd cc

-- so does the item of words that pass
Follow-words : {Item : Type 0} (g : Rules Item) (items : List Item) (words : List (List ℕ)) → Follow g items → words_fault g items words ≡ None → Follow g (items ++ option_to_list (item_in g words))
unfolding words_fault
Follow-words g items words h none = go (eqb (length words) 0) refl (was_read g items (end_rank g)) refl none
  where
    go : (empty : Bool) → eqb (length words) 0 ≡ empty → (ended : Bool) → was_read g items (end_rank g) ≡ ended
        → cond empty None (cond ended (Some AfterEnd) (parsed_fault g items (g.item_of words))) ≡ None
        → Follow g (items ++ option_to_list (item_in g words))
    go true e ended f none = rw (e, append-nil items) h
    go false e true f none = absurd cc
    go false e false f none = rw e (Follow-parsed g items (g.item_of words) h f none)

-- the second of two, where there is neither
pub second_none : {X : Type 0} (a b : Option X) → option_or a b ≡ None → (a ≡ None) × (b ≡ None)
second_none None b e = (refl, e)
second_none (Some x) b e = absurd cc

-- and that of a line that passes
Follow-line : {Item : Type 0} (g : Rules Item) (items : List Item) (l : TextLine) → Follow g items → line_fault g items l ≡ None → Follow g (items ++ option_to_list (item_in g (content_of l.bytes)))
unfolding line_fault
Follow-line g items l h none = Follow-words g items (content_of l.bytes) h (second_none (form_fault l) (words_fault g items (content_of l.bytes)) none).1

-- and those of lines that all pass
Follow-lines : {Item : Type 0} (g : Rules Item) (lines before after : List TextLine) → lines ≡ before ++ after → ArePassed g lines (length lines) → Follow g (items_of g before) → Follow g (items_of g lines)
Follow-lines g lines before [] e passed h = rw (e, append-nil before) h
Follow-lines g lines before (l ∷ after) e passed h =
    let none : line_fault g (items_of g before) l ≡ None = sym (refusal_at_here g before l after) ∙ ap (λ (ls : List TextLine). refusal_at g ls (length before)) (sym e) ∙ passed (length before) (omega (arith, ap length e, length-append before (l ∷ after))) in
    Follow-lines g lines (before ++ l ∷ []) after (e ∙ sym (append_assoc before (l ∷ []) after)) passed (rw items_of_more (Follow-line g (items_of g before) l h none))

-- the items of a text with a value are accepted
pub IsAccepted-from_outcome : {Item : Type 0} (g : Rules Item) (text : List ℕ) (items : List Item) → outcome_of g text ≡ Ok items → IsAccepted g items
IsAccepted-from_outcome g text items e =
    let v = ((IsOutcome-always g text).value items).0 e in
    let none : Follow g [] = record { each = λ n x at. absurd cc; before_end = λ n below. absurd (omega arith) } in
    let h : Follow g items = rw v.value (Follow-lines g (lines_of text) [] (lines_of text) refl v.passed none) in
    record { each = h.each; before_end = h.before_end; has_ended = rw v.value v.ended }
