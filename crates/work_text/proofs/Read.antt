-- The text of what workers did is read as its history.
use Rattle.std.proofs.Common.{◌≡◌, ℕ, false, List, [], ◌∷◌, ◌++◌, map, filter, Ok, refl, sym, ap, ◌∙◌, subst, append-nil}
use Rattle.std.specs.List.{AllByRecursion}
use Rattle.std.proofs.lemmas.Grind.{flat_map-append}
use Rattle.std.proofs.lemmas.List.Elements.{filter-append}
use Rattle.line_text.specs.Comments.{MaySkip, ended, lines_text, tells}
use Rattle.line_text.specs.Spelling.{spaced, text_of}
use Rattle.line_text.specs.Text.{is_comment}
use Rattle.line_text.proofs.CommentLines.{comments_skip, nothing_told, skips_append, told_skips}
use Rattle.store_text.specs.Body.{store_outcome}
use Rattle.store_text.specs.declared.line.Line.{Line}
use Rattle.store_text.specs.declared.line.Line.TheVariants.{Objects, Max, Object, Entry, End}
use Rattle.history_text.specs.Canonical.{CanonicalIsRead, CommentsAreSkipped, canonical_lines, canonical_text, words_of}
use Rattle.history_text.specs.Events.{history_body}
use Rattle.history_text.specs.declared.event_line.EventLine.{EventLine}
use Rattle.history_text.specs.declared.event_line.EventLine.TheVariants.{Begin, Op, OpOf, Busy, Nothing, Commit, Abort, Rollback}
use Rattle.work_text.specs.TextHistory.{WorkIsRead}
use Rattle.work_text.proofs.Comments.{comments_follow}

-- a line, without its LF
abbrev line : Line EventLine → List ℕ
line l = spaced (words_of l)

abbrev lines : List (Line EventLine) → List (List ℕ)
lines ls = map line ls

-- none is a comment
tells_event : (x : EventLine) → is_comment (line (Entry x)) ≡ false
tells_event (Begin w t) = refl
tells_event (Op w t x k) = refl
tells_event (OpOf w t x k n) = refl
tells_event (Busy w t x c u) = refl
tells_event (Nothing w t x c) = refl
tells_event (Commit w t) = refl
tells_event (Abort w t) = refl
tells_event (Rollback w t n) = refl

tells_line : (l : Line EventLine) → is_comment (line l) ≡ false
tells_line (Objects n) = refl
tells_line (Max most) = refl
tells_line (Object kind file name) = refl
tells_line (Entry x) = tells_event x
tells_line End = refl

all_told : (ls : List (Line EventLine)) → filter tells (lines ls) ≡ lines ls
all_told [] = refl
all_told (l ∷ ls) = rw (tells_line l) (ap (λ (ms : List (List ℕ)). line l ∷ ms) (all_told ls))

all_skip : (ls : List (Line EventLine)) → AllByRecursion MaySkip (lines ls)
all_skip [] = tt
all_skip (l ∷ ls) = (told_skips (line l) (tells_line l), all_skip ls)

text-lines : (ls : List (Line EventLine)) → text_of words_of ls ≡ lines_text (lines ls)
text-lines [] = refl
text-lines (l ∷ ls) = ap (λ (t : List ℕ). (line l ++ 10 ∷ []) ++ t) (text-lines ls)

pub work_read : CommentsAreSkipped → CanonicalIsRead → WorkIsRead
work_read skipped canonical = λ objects H kept audit reports fit short.
    let said = canonical_lines objects H in
    let rest = comments_follow kept audit reports short in
    let all = lines said ++ rest.lines in
    let told : filter tells all ≡ lines said =
    filter-append tells (lines said) rest.lines ∙ ap (λ (ms : List (List ℕ)). filter tells (lines said) ++ ms) (nothing_told rest.lines rest.are)
    ∙ append-nil (filter tells (lines said)) ∙ all_told said
    in
    let alone : lines_text (filter tells all) ≡ canonical_text objects H = ap lines_text told ∙ sym (text-lines said) in
    let whole : lines_text all ≡ canonical_text objects H ++ lines_text rest.lines =
    flat_map-append ended (lines said) rest.lines ∙ ap (λ (t : List ℕ). t ++ lines_text rest.lines) (sym (text-lines said))
    in
    let read = subst (λ (t : List ℕ). store_outcome history_body t ≡ Ok said) (sym alone) (canonical objects H fit).read in
    let may = skips_append (lines said) rest.lines (all_skip said) (comments_skip rest.lines rest.are) in
    let both = skipped all said may read in
    subst (λ (t : List ℕ). store_outcome history_body t ≡ Ok said) (whole ∙ ap (λ (t : List ℕ). canonical_text objects H ++ t) (sym rest.is)) both
