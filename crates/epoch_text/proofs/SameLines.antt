-- The lines of events in the file of a store are those of the canonical text.
use Rattle.std.proofs.Common.{◌≡◌, refl, sym, ap, ℕ, zero, suc, ◌<◌, ◌^◌, List, [], ◌∷◌, ◌++◌, get_or, map, Option, lit<, ◌∙◌}
use Rattle.std.specs.Prelude as option
use Rattle.std.specs.Prelude.{codes}
use Rattle.std.specs.List.{AllByRecursion}
use Rattle.object_trait.specs.declared.event.EventKind.{EventKind}
use Rattle.object_trait.specs.declared.event.EventKind.TheVariants.{Begin, Op, Busy, None, Commit, Abort, Rollback}
use Rattle.type_table.specs.Operation.{amount_of, place_of}
use Rattle.outputs.specs.Numbers.{numbers_line}
use Rattle.line_text.specs.Spelling.{spaced, text_of}
use Rattle.store_text.specs.Kept.{size_lines}
use Rattle.store_text.specs.declared.line.ObjectLine.{ObjectLine}
use Rattle.event_text.specs.EventText.{AreShort, IsShort, amount_numbers, event_lines, event_numbers, event_word, events_of_kinds, kind_of_event, line_in_row}
use Rattle.event_text.proofs.Numerals.{same-line}
use Rattle.history_text.specs.Canonical.{canonical_size, canonical_text, event_line, event_line_words, object_line, words_of}
use Rattle.history_text.specs.Events.{event_line_at, op_event_line}
use Rattle.history_text.proofs.Writing.{text-parts}
use Rattle.epoch_text.specs.EpochText.{text_with_lines}

-- the canonical line of an event of worker 0
abbrev line_of_kind : EventKind → List ℕ
line_of_kind k = spaced (event_line_words (event_line_at 0 k)) ++ 10 ∷ []

-- has these numbers
op-numbers : (t x k : ℕ) (amount : Option ℕ) → spaced (event_line_words (op_event_line 0 t x k amount)) ++ 10 ∷ [] ≡ numbers_line (codes "op") (0 ∷ t ∷ x ∷ k ∷ amount_numbers amount)
op-numbers t x k option.None = refl
op-numbers t x k (option.Some n) = refl

line-numbers : (k : EventKind) → line_of_kind k ≡ numbers_line (event_word (kind_of_event k)) (0 ∷ event_numbers k)
line-numbers (Begin t) = refl
line-numbers (Op k t x) = op-numbers t x (place_of k) (amount_of k)
line-numbers (Busy c t x u) = refl
line-numbers (None t x c) = refl
line-numbers (Commit t) = refl
line-numbers (Abort t) = refl
line-numbers (Rollback t n) = refl

-- numbers of 32 bits, place by place
small-at : (ns : List ℕ) → AllByRecursion (λ n. n < 2 ^ 32) ns → (i : ℕ) → get_or ns i 0 < 2 ^ 32
small-at [] small zero = lit< tt
small-at [] small (suc i) = lit< tt
small-at (n ∷ ns) small zero = small.0
small-at (n ∷ ns) small (suc i) = small-at ns small.1 i

-- so it is the line in a row
line-same : (k : EventKind) → IsShort k → line_of_kind k ≡ line_in_row k
line-same k short = line-numbers k ∙ same-line (event_word (kind_of_event k)) (0 ∷ event_numbers k) (small-at (0 ∷ event_numbers k) (lit< tt, short))

pub lines-same : (happened : List EventKind) → AreShort happened → text_of words_of (map event_line (events_of_kinds happened)) ≡ event_lines happened
unfolding event_lines
lines-same [] short = refl
lines-same (k ∷ more) short = ap (λ line. line ++ text_of words_of (map event_line (events_of_kinds more))) (line-same k short.0) ∙ ap (λ lines. line_in_row k ++ lines) (lines-same more short.1)

-- and the text with them the canonical one
pub text-same : (objects : List ObjectLine) (happened : List EventKind) → AreShort happened → text_with_lines objects (event_lines happened) ≡ canonical_text objects (events_of_kinds happened)
text-same objects happened short =
    ap (λ lines. text_of words_of (size_lines (canonical_size objects)) ++ (text_of words_of (map object_line objects) ++ (lines ++ codes "end\n"))) (sym (lines-same happened short))
    ∙ text-parts objects (events_of_kinds happened)
