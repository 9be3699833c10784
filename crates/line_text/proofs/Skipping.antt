-- Comments leave the outcome of a text as it is.
use Rattle.std.proofs.Common.{◌≡◌, ℕ, ◌+◌, ◌<◌, ◌≤◌, Bool, true, false, not, eqb, List, [], ◌∷◌, ◌++◌, length, map, filter, cond, Option, Some, None, Ok, refl, sym, ap, ◌∙◌, subst, append_assoc, append-nil, length-append, arith}
use Rattle.std.specs.List.{AllByRecursion, list_all, onto_first, slice_split}
use Rattle.std.proofs.lemmas.Bool.{and_parts, le-ltb, leb-true, ne_eqb}
use Rattle.std.proofs.lemmas.List.Elements.{All-from_recursion, filter_map-append}
use Rattle.std.proofs.lemmas.List.Splits.{length-slice_split, slice_split-cons_yes, slice_split-cons_no, slice_split_at}
use Rattle.std.specs.Prelude.{nat_le, if◌then◌else◌}
use Rattle.line_text.specs.Text.{TextLine, is_comment, lines_of, lines_of_pieces}
use Rattle.line_text.specs.Rules.{Rules, items_of, was_read, end_rank}
use Rattle.line_text.specs.LineTests.{is_text_byte, fault_of, line_fault, words_fault}
use Rattle.line_text.specs.Outcome.{first_fault, fault_on, has_ended, or_fault, or_next, outcome_of}
use Rattle.line_text.specs.Comments.{AreSkipped, IsComment, MaySkip, ended, lines_text, tells}
use Rattle.line_text.specs.declared.fault.FaultKind.{FaultKind}
use Rattle.line_text.specs.declared.fault.TextFault.{TextFault}

-- ---- where a text is cut

abbrev is_feed : ℕ → Bool
is_feed b = eqb b 10

-- a line with its LF, as it is read
abbrev ended_line : List ℕ → TextLine
ended_line l = record { bytes = l; is_ended = true }

onto_append : (b : ℕ) (ps qs : List (List ℕ)) → 0 < length ps → onto_first b (ps ++ qs) ≡ onto_first b ps ++ qs
onto_append b [] qs some = absurd (omega (arith, some))
onto_append b (p ∷ ps) qs some = refl

-- there is a piece always
some_piece : (bytes : List ℕ) → 0 < length (slice_split is_feed bytes)
some_piece bytes = omega (arith, length-slice_split is_feed bytes)

-- one byte more in front
cut_more : (b : ℕ) (front rest : List ℕ) (is : Bool) → is_feed b ≡ is → slice_split is_feed (front ++ 10 ∷ rest) ≡ slice_split is_feed front ++ slice_split is_feed rest
    → slice_split is_feed (b ∷ (front ++ 10 ∷ rest)) ≡ slice_split is_feed (b ∷ front) ++ slice_split is_feed rest
cut_more b front rest true is so_far =
    slice_split-cons_yes is_feed b (front ++ 10 ∷ rest) is ∙ ap (λ (ps : List (List ℕ)). [] ∷ ps) so_far
    ∙ ap (λ (ps : List (List ℕ)). ps ++ slice_split is_feed rest) (sym (slice_split-cons_yes is_feed b front is))
cut_more b front rest false is so_far =
    slice_split-cons_no is_feed b (front ++ 10 ∷ rest) is ∙ ap (onto_first b) so_far
    ∙ onto_append b (slice_split is_feed front) (slice_split is_feed rest) (some_piece front)
    ∙ ap (λ (ps : List (List ℕ)). ps ++ slice_split is_feed rest) (sym (slice_split-cons_no is_feed b front is))

-- at each LF
cut_at : (front rest : List ℕ) → slice_split is_feed (front ++ 10 ∷ rest) ≡ slice_split is_feed front ++ slice_split is_feed rest
cut_at [] rest = slice_split-cons_yes is_feed 10 rest refl
cut_at (b ∷ front) rest = cut_more b front rest (is_feed b) refl (cut_at front rest)

-- a piece before others is a line with its LF
first_piece : (p : List ℕ) (ps : List (List ℕ)) → 0 < length ps → lines_of_pieces (p ∷ ps) ≡ ended_line p ∷ lines_of_pieces ps
first_piece p [] some = absurd (omega (arith, some))
first_piece p (q ∷ ps) some = refl

more : (ps qs : List (List ℕ)) → 0 < length qs → 0 < length (ps ++ qs)
more ps qs some = omega (arith, some, length-append ps qs)

-- and so are all
first_pieces : (ps qs : List (List ℕ)) → 0 < length qs → lines_of_pieces (ps ++ qs) ≡ map ended_line ps ++ lines_of_pieces qs
first_pieces [] qs some = refl
first_pieces (p ∷ ps) qs some =
    first_piece p (ps ++ qs) (more ps qs some) ∙ ap (λ (ls : List TextLine). ended_line p ∷ ls) (first_pieces ps qs some)

-- the lines up to a LF, and those after it
lines_append : (front rest : List ℕ) → lines_of (ended front ++ rest) ≡ lines_of (ended front) ++ lines_of rest
lines_append front rest =
    let cut : (r : List ℕ) → lines_of (front ++ 10 ∷ r) ≡ map ended_line (slice_split is_feed front) ++ lines_of r =
    λ r. ap lines_of_pieces (cut_at front r) ∙ first_pieces (slice_split is_feed front) (slice_split is_feed r) (some_piece r) in
    let alone = cut [] ∙ append-nil (map ended_line (slice_split is_feed front)) in
    ap lines_of (append_assoc front (10 ∷ []) rest) ∙ cut rest ∙ ap (λ (ls : List TextLine). ls ++ lines_of rest) (sym alone)

-- ---- a comment

-- its bytes have no LF
no_feed : (l : List ℕ) → list_all is_text_byte l ≡ true → AllByRecursion (λ b. is_feed b ≡ false) l
no_feed [] bytes = tt
no_feed (b ∷ l) bytes =
    let parts = and_parts (is_text_byte b) (list_all is_text_byte l) bytes in
    let low = leb-true 32 b (and_parts (nat_le 32 b) (nat_le b 126) parts.0).0 in
    (ne_eqb b 10 (λ e. omega (arith, e, low)), no_feed l parts.1)

-- its line, before others
comment_line : (l rest : List ℕ) → IsComment l → lines_of (ended l ++ rest) ≡ ended_line l ∷ lines_of rest
comment_line l rest is =
    let alone : lines_of (ended l) ≡ ended_line l ∷ [] =
    ap lines_of_pieces (slice_split_at is_feed l 10 [] (All-from_recursion (λ b. is_feed b ≡ false) l (no_feed l is.bytes)) refl)
    in
    lines_append l rest ∙ ap (λ (ms : List TextLine). ms ++ lines_of rest) alone

-- ---- faults

-- no fault, where `end` is there
has_ended-from : (ends : Bool) (f : TextFault) → (if ends then None else Some f) ≡ None → ends ≡ true
has_ended-from true f none = refl
has_ended-from false f none = absurd cc

or_next-none : (line : ℕ) (kind : Option FaultKind) (next : Option TextFault) → or_next line kind next ≡ None → (kind ≡ None) × (next ≡ None)
or_next-none line None next none = (refl, none)
or_next-none line (Some kind) next none = absurd cc

or_fault-ok : {A : Type 0} (f : Option TextFault) (x y : A) → or_fault f x ≡ Ok y → (f ≡ None) × (x ≡ y)
or_fault-ok None x y ok = let same : x ≡ y = cc in (refl, same)
or_fault-ok (Some f) x y ok = absurd cc

module _ {Item : Type 0} (g : Rules Item) where
  -- lines that say the same items
  abbrev Alike : List TextLine → List TextLine → Type 0
  Alike before others = items_of g before ≡ items_of g others

  -- what lines say one after the other
  items_append : (first second : List TextLine) → items_of g (first ++ second) ≡ items_of g first ++ items_of g second
  items_append first second = filter_map-append _ first second

  alike_more : (before others lines : List TextLine) → Alike before others → Alike (before ++ lines) (others ++ lines)
  alike_more before others lines same =
      items_append before lines ∙ ap (λ (xs : List Item). xs ++ items_of g lines) same ∙ sym (items_append others lines)

  -- a comment says nothing
  says_nothing : (l : List ℕ) → IsComment l → items_of g (ended_line l ∷ []) ≡ []
  says_nothing l is = rw is.comment refl

  alike_comment : (before others : List TextLine) (l : List ℕ) → IsComment l → Alike before others → Alike before (others ++ ended_line l ∷ [])
  alike_comment before others l is same =
      let kept : items_of g (others ++ ended_line l ∷ []) ≡ items_of g others =
      items_append others (ended_line l ∷ []) ∙ ap (λ (xs : List Item). items_of g others ++ xs) (says_nothing l is) ∙ append-nil (items_of g others)
      in
      same ∙ sym kept

  -- and has no fault
  no_fault : (before : List TextLine) (l : List ℕ) → IsComment l → fault_of g before (ended_line l) ≡ None
  unfolding line_fault words_fault
  no_fault before l is = rw (is.bytes, le-ltb 200 (length l) is.short, is.comment) refl

  end_passes : (before others : List TextLine) → Alike before others → first_fault g before [] ≡ None → first_fault g others [] ≡ None
  unfolding first_fault
  end_passes before others same passed =
      let ends = has_ended-from (has_ended g before) (fault_on (length before + 1) _) passed in
      let ended_too : has_ended g others ≡ true = ap (λ (xs : List Item). was_read g xs (end_rank g)) (sym same) ∙ ends in
      rw ended_too refl

  -- lines that pass after some lines pass after others that say the same
  front_passes : (front rest more_rest before others : List TextLine) → Alike before others
      → ((b o : List TextLine) → Alike b o → first_fault g b rest ≡ None → first_fault g o more_rest ≡ None)
      → first_fault g before (front ++ rest) ≡ None → first_fault g others (front ++ more_rest) ≡ None
  unfolding first_fault
  front_passes [] rest more_rest before others same next passed = next before others same passed
  front_passes (l ∷ front) rest more_rest before others same next passed =
      let parts = or_next-none (length before + 1) (fault_of g before l) (first_fault g (before ++ l ∷ []) (front ++ rest)) passed in
      let fine : fault_of g others l ≡ None = ap (λ (xs : List Item). line_fault g xs l) (sym same) ∙ parts.0 in
      rw fine (front_passes front rest more_rest (before ++ l ∷ []) (others ++ l ∷ []) (alike_more before others (l ∷ []) same) next parts.1)

  comment_passes : (l : List ℕ) (rest before : List TextLine) → IsComment l → first_fault g (before ++ ended_line l ∷ []) rest ≡ None
      → first_fault g before (ended_line l ∷ rest) ≡ None
  unfolding first_fault
  comment_passes l rest before is passed = rw (no_fault before l is) passed

  -- ---- all lines

  -- the lines that say something, where the first is a comment or isn't
  abbrev told : Bool → List ℕ → List (List ℕ) → List (List ℕ)
  told is l ls = cond (not is) (l ∷ filter tells ls) (filter tells ls)

  -- what passes without its comments passes with them
  abbrev Passes : List (List ℕ) → Type 0
  Passes ls =
      (before others : List TextLine) → Alike before others → first_fault g before (lines_of (lines_text (filter tells ls))) ≡ None
      → first_fault g others (lines_of (lines_text ls)) ≡ None

  line_passes : (l : List ℕ) (ls : List (List ℕ)) (is : Bool) → is_comment l ≡ is → MaySkip l → Passes ls → (before others : List TextLine) → Alike before others
      → first_fault g before (lines_of (lines_text (told is l ls))) ≡ None → first_fault g others (lines_of (lines_text (l ∷ ls))) ≡ None
  line_passes l ls true e may next before others same known =
      let c = may e in
      subst (λ (ms : List TextLine). first_fault g others ms ≡ None) (sym (comment_line l (lines_text ls) c))
      (comment_passes l (lines_of (lines_text ls)) others c (next before (others ++ ended_line l ∷ []) (alike_comment before others l c same) known))
  line_passes l ls false e may next before others same known =
      let mine = subst (λ (ms : List TextLine). first_fault g before ms ≡ None) (lines_append l (lines_text (filter tells ls))) known in
      subst (λ (ms : List TextLine). first_fault g others ms ≡ None) (sym (lines_append l (lines_text ls)))
      (front_passes (lines_of (ended l)) (lines_of (lines_text (filter tells ls))) (lines_of (lines_text ls)) before others same next mine)

  lines_pass : (ls : List (List ℕ)) → AllByRecursion MaySkip ls → Passes ls
  lines_pass [] may = λ before others same passed. end_passes before others same passed
  lines_pass (l ∷ ls) may = λ before others same passed.
      line_passes l ls (is_comment l) refl may.0 (lines_pass ls may.1) before others same passed

  line_alike : (l : List ℕ) (ls : List (List ℕ)) (is : Bool) → is_comment l ≡ is → MaySkip l → Alike (lines_of (lines_text ls)) (lines_of (lines_text (filter tells ls)))
      → Alike (lines_of (lines_text (l ∷ ls))) (lines_of (lines_text (told is l ls)))
  line_alike l ls true e may rest =
      let c = may e in
      ap (items_of g) (comment_line l (lines_text ls) c) ∙ items_append (ended_line l ∷ []) (lines_of (lines_text ls))
      ∙ ap (λ (xs : List Item). xs ++ items_of g (lines_of (lines_text ls))) (says_nothing l c) ∙ rest
  line_alike l ls false e may rest =
      let first = lines_of (ended l) in
      let others = lines_of (lines_text (filter tells ls)) in
      ap (items_of g) (lines_append l (lines_text ls)) ∙ items_append first (lines_of (lines_text ls))
      ∙ ap (λ (xs : List Item). items_of g first ++ xs) rest ∙ sym (items_append first others)
      ∙ ap (items_of g) (sym (lines_append l (lines_text (filter tells ls))))

  items_alike : (ls : List (List ℕ)) → AllByRecursion MaySkip ls → Alike (lines_of (lines_text ls)) (lines_of (lines_text (filter tells ls)))
  items_alike [] may = refl
  items_alike (l ∷ ls) may = line_alike l ls (is_comment l) refl may.0 (items_alike ls may.1)

  pub are_skipped : (ls : List (List ℕ)) → AreSkipped g ls
  unfolding outcome_of
  are_skipped ls = λ items may is.
      let told_lines = lines_of (lines_text (filter tells ls)) in
      let known = or_fault-ok (first_fault g [] told_lines) (items_of g told_lines) items is in
      rw (lines_pass ls may [] [] refl known.0) (ap (λ (xs : List Item). Ok xs) (items_alike ls may ∙ known.1))
