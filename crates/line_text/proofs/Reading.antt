-- What the reader knows between two lines.
use Rattle.std.proofs.Common.{◌≡◌, ℕ, ◌+◌, ◌<◌, true, false, List, [], ◌∷◌, ◌++◌, length, Option, Some, None, Ok, Err, refl, sym, ap, ◌∙◌, inl, inr, arith, append_assoc, add_assoc, add-zero, subst}
use Rattle.std.specs.Option.{option_to_list}
use Rattle.std.specs.List.{cons_option}
use Rattle.std.proofs.lemmas.List.{append-nil, length-append}
use Rattle.std.proofs.lemmas.List.Elements.{filter_map-append}
use Rattle.line_text.specs.Text.{TextLine, lines_of, content_of}
use Rattle.line_text.specs.Rules.{Rules, item_in, items_of, was_read, end_rank}
use Rattle.line_text.specs.LineTests.{line_fault}
use Rattle.line_text.specs.Steps.{HasRead, Reads, ReadsLines}
use Rattle.line_text.specs.Outcome.{fault_on, has_ended, outcome_of, refusal_at, ArePassed, IsReached}
use Rattle.line_text.specs.declared.fault.FaultKind.{FaultKind}
use Rattle.line_text.specs.declared.fault.FaultKind.TheVariants.{Missing}
use Rattle.line_text.proofs.Places.{refusal_at_here, ArePassed-more, outcome_from}

-- the items of one more line
pub items_of_more : {Item : Type 0} (g : Rules Item) (before : List TextLine) (l : TextLine) → items_of g (before ++ l ∷ []) ≡ items_of g before ++ option_to_list (item_in g (content_of l.bytes))
items_of_more g before l = filter_map-append (λ (k : TextLine). item_in g (content_of k.bytes)) before (l ∷ []) ∙ ap (λ xs. items_of g before ++ xs) (one (item_in g (content_of l.bytes)))
  where
    one : {X : Type 0} (o : Option X) → cons_option o [] ≡ option_to_list o
    one None = refl
    one (Some x) = refl

module _ {Item : Type 0} (g : Rules Item) (text rest : List ℕ) (line : ℕ) (items : List Item) (l : TextLine) (more : List TextLine) (first : lines_of rest ≡ l ∷ more) (read : HasRead g text rest line items) where
  all_split : lines_of text ≡ read.before ++ l ∷ more
  all_split = read.split ∙ ap (λ (ls : List TextLine). read.before ++ ls) first

  -- the next line is judged by the items so far
  next_refusal : refusal_at g (lines_of text) (length read.before) ≡ line_fault g items l
  next_refusal = rw (all_split, read.items_are) (refusal_at_here g read.before l more)

  -- the next line has passed
  pub HasRead-more : (behind : List ℕ) (after : List Item) → more ≡ lines_of behind → length behind < length rest → line_fault g items l ≡ None → after ≡ items ++ option_to_list (item_in g (content_of l.bytes)) → HasRead g text behind (line + 1) after
  HasRead-more behind after is shorter none appended = record {
    before = read.before ++ l ∷ [];
    split = all_split ∙ ap (λ (ls : List TextLine). read.before ++ l ∷ ls) is ∙ sym (append_assoc read.before (l ∷ []) (lines_of behind));
    items_are = appended ∙ ap (λ (xs : List Item). xs ++ option_to_list (item_in g (content_of l.bytes))) read.items_are ∙ sym (items_of_more g read.before l);
    line_is = rw length-append (ap (λ (n : ℕ). n + 1) read.line_is);
    passed = rw length-append (ArePassed-more g (lines_of text) (length read.before) read.passed (next_refusal ∙ none));
    room = rw length-append (omega (arith, read.room));
  }

  -- the line that is being read is one that may be
  pub IsReached-next : IsReached g (lines_of text) line
  IsReached-next = record {
    from_one = omega (arith, read.line_is);
    within = rw all_split (rw length-append (omega (arith, read.line_is)));
    passed = λ k below. read.passed k (omega (arith, read.line_is));
  }

  -- the next line is refused
  pub refused_next : (kind : FaultKind) → line_fault g items l ≡ Some kind → outcome_of g text ≡ Err (fault_on line kind)
  refused_next kind e = outcome_from g text (Err (fault_on line kind)) (inl (record { place = length read.before; line = read.line_is; before = read.passed; kind = next_refusal ∙ e }))

module _ {Item : Type 0} (g : Rules Item) (text rest : List ℕ) (line : ℕ) (items : List Item) (last : lines_of rest ≡ []) (read : HasRead g text rest line items) where
  no_more : lines_of text ≡ read.before
  no_more = read.split ∙ ap (λ (ls : List TextLine). read.before ++ ls) last ∙ append-nil read.before

  -- all lines have passed
  all_passed : ArePassed g (lines_of text) (length (lines_of text))
  all_passed k below = read.passed k (omega (arith, ap length no_more))

  -- `end` is among the lines where it is among the items
  read_is : has_ended g (lines_of text) ≡ was_read g items (end_rank g)
  read_is = rw (no_more, read.items_are) refl

  -- after the last line `end` wasn't read
  pub unfinished_next : false ≡ was_read g items (end_rank g) → outcome_of g text ≡ Err (fault_on line Missing)
  unfinished_next e = outcome_from g text (Err (fault_on line Missing)) (inr (record { passed = all_passed; no_end = read_is ∙ sym e; fault = ap (λ (n : ℕ). fault_on n Missing) (read.line_is ∙ ap (λ (ls : List TextLine). length ls + 1) (sym no_more)) }))

  -- after the last line `end` was read
  pub value_next : true ≡ was_read g items (end_rank g) → outcome_of g text ≡ Ok items
  value_next e = outcome_from g text (Ok items) (record { passed = all_passed; ended = read_is ∙ sym e; value = read.items_are ∙ ap (items_of g) (sym no_more) })

-- no line
pub ReadsLines-none : {Item : Type 0} (g : Rules Item) (rest : List ℕ) (before : List Item) → ReadsLines g rest rest 0 before before
ReadsLines-none g rest before = record {
  goes_on = λ text line read. rw add-zero read;
  shorter = omega arith;
  none = λ e. refl;
}

-- one more line
pub ReadsLines-more : {Item : Type 0} (g : Rules Item) (rest middle behind : List ℕ) (count : ℕ) (before items after : List Item) → ReadsLines g rest middle count before items → Reads g middle behind items after → ReadsLines g rest behind (count + 1) before after
ReadsLines-more g rest middle behind count before items after some next = record {
  goes_on = λ text line read.
      let had = some.goes_on text line read in
      subst (λ n. HasRead g text behind n after) (add_assoc line count 1)
      (HasRead-more g text middle (line + count) items next.line (lines_of behind) next.first had behind after refl next.shorter next.passed next.items);
  shorter = omega (arith, some.shorter, next.shorter);
  none = λ e. absurd (omega (arith, e));
}

-- one line after items that are these
pub ReadsLines-one : {Item : Type 0} (g : Rules Item) (rest behind : List ℕ) (before items after : List Item) → items ≡ before → Reads g rest behind items after → ReadsLines g rest behind 1 before after
ReadsLines-one g rest behind before items after same next =
    ReadsLines-more g rest rest behind 0 before before after (ReadsLines-none g rest before) (subst (λ its. Reads g rest behind its after) same next)

-- before the first line
pub HasRead-none : {Item : Type 0} (g : Rules Item) (text : List ℕ) (items : List Item) → items ≡ [] → HasRead g text text 1 items
HasRead-none g text items e = record { before = []; split = refl; items_are = e; line_is = refl; passed = λ k below. absurd (omega arith); room = omega arith }

-- the first line may be read
pub IsReached-first : {Item : Type 0} (g : Rules Item) (text : List ℕ) → IsReached g (lines_of text) 1
IsReached-first g text = record { from_one = omega arith; within = omega arith; passed = λ k below. absurd (omega arith) }
