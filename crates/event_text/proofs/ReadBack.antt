-- The lines of events say these events.
use Rattle.std.proofs.Common.{◌≡◌, refl, sym, ap, ℕ, ◌<◌, List, [], ◌∷◌, ◌++◌, map, length, get_or, slice_get, eqb, Option, lit<, arith, ◌∙◌}
use Rattle.std.specs.Prelude as option
use Rattle.std.specs.List.{AllByRecursion, flat_map, join_with_byte, slice_split}
use Rattle.std.proofs.lemmas.List.Splits.{length-slice_split}
use Rattle.type_table.specs.Operation.{operation_at, place_of, amount_of, operation-again}
use Rattle.object_trait.specs.declared.event.EventKind.{EventKind}
use Rattle.object_trait.specs.declared.event.EventKind.TheVariants.{Begin, Op, Busy, None, Commit, Abort, Rollback}
use Rattle.event_text.specs.declared.event_word.EventWord.{EventWord}
use Rattle.event_text.specs.declared.event_word.EventWord.TheVariants as word
use Rattle.event_text.specs.EventText.{amount_numbers, line_in_row, event_lines, event_numbers, event_of_numbers, event_said, event_word, events_of_lines, events_said, kind_of_event, number_said, numeral, word_of_event}
use Rattle.event_text.proofs.Numerals.{numeral-above, numerals-said}
use Rattle.event_text.proofs.Lines.{joined-above, line-cut, words-cut}

-- ---- the words of an event

-- numbers say the event
numbers-say : (e : EventKind) → event_of_numbers (option.Some (kind_of_event e)) (event_numbers e) ≡ e
numbers-say (Begin t) = refl
numbers-say (Op k t x) = by (amount_of k) ∙ ap (λ k. Op k t x) (operation-again k)
  where
    by : (amount : Option ℕ) → Op (operation_at (place_of k) (slice_get (t ∷ x ∷ place_of k ∷ amount_numbers amount) 3)) t x ≡ Op (operation_at (place_of k) amount) t x
    by option.None = refl
    by (option.Some n) = refl
numbers-say (Busy c t x u) = refl
numbers-say (None t x c) = refl
numbers-say (Commit t) = refl
numbers-say (Abort t) = refl
numbers-say (Rollback t n) = refl

word-again : (w : EventWord) → word_of_event (event_word w) ≡ option.Some w
word-again word.Begin = refl
word-again word.Op = refl
word-again word.Busy = refl
word-again word.None = refl
word-again word.Commit = refl
word-again word.Abort = refl
word-again word.Rollback = refl

abbrev words-of : EventKind → List (List ℕ)
words-of e = event_word (kind_of_event e) ∷ map numeral (0 ∷ event_numbers e)

words-say : (e : EventKind) → event_said (words-of e) ≡ e
words-say e =
    ap (λ w. event_of_numbers w (map number_said (map numeral (event_numbers e)))) (word-again (kind_of_event e))
    ∙ ap (event_of_numbers (option.Some (kind_of_event e))) (numerals-said (event_numbers e))
    ∙ numbers-say e

-- ---- its line

word-above : (w : EventWord) → AllByRecursion (λ b. 32 < b) (event_word w)
word-above word.Begin = (lit< tt, (lit< tt, (lit< tt, (lit< tt, (lit< tt, tt)))))
word-above word.Op = (lit< tt, (lit< tt, tt))
word-above word.Busy = (lit< tt, (lit< tt, (lit< tt, (lit< tt, tt))))
word-above word.None = (lit< tt, (lit< tt, (lit< tt, (lit< tt, tt))))
word-above word.Commit = (lit< tt, (lit< tt, (lit< tt, (lit< tt, (lit< tt, (lit< tt, tt))))))
word-above word.Abort = (lit< tt, (lit< tt, (lit< tt, (lit< tt, (lit< tt, tt)))))
word-above word.Rollback = (lit< tt, (lit< tt, (lit< tt, (lit< tt, (lit< tt, (lit< tt, (lit< tt, (lit< tt, tt))))))))

numerals-above : (ns : List ℕ) → AllByRecursion (λ w. AllByRecursion (λ b. 32 < b) w) (map numeral ns)
numerals-above [] = tt
numerals-above (n ∷ ns) = (numeral-above n, numerals-above ns)

words-above : (e : EventKind) → AllByRecursion (λ w. AllByRecursion (λ b. 32 < b) w) (words-of e)
words-above e = (word-above (kind_of_event e), numerals-above (0 ∷ event_numbers e))

line-says : (e : EventKind) → event_said (slice_split (λ b. eqb b 32) (join_with_byte 32 (words-of e))) ≡ e
line-says e = ap event_said (words-cut (event_word (kind_of_event e)) (map numeral (0 ∷ event_numbers e)) (words-above e)) ∙ words-say e

-- ---- the lines of several

-- a line is put before others, of which there is one at least
before-others : (line : List ℕ) (lines : List (List ℕ)) → 0 < length lines → events_of_lines (line ∷ lines) ≡ event_said (slice_split (λ b. eqb b 32) line) ∷ events_of_lines lines
before-others line [] some = absurd (omega (arith, some))
before-others line (next ∷ lines) some = refl

pub read-back : (events : List EventKind) → events_said (event_lines events) ≡ events
unfolding event_lines events_said
read-back [] = refl
read-back (e ∷ events) =
    let line = join_with_byte 32 (words-of e) in
    let rest = flat_map line_in_row events in
    ap events_of_lines (line-cut line rest (joined-above (words-of e) (words-above e)))
    ∙ before-others line (slice_split (λ b. eqb b 10) rest) (omega (arith, length-slice_split (λ b. eqb b 10) rest))
    ∙ ap (λ first. first ∷ events_of_lines (slice_split (λ b. eqb b 10) rest)) (line-says e)
    ∙ ap (λ more. e ∷ more) (read-back events)
