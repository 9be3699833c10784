-- How the text of a history is put together from what its writer writes.
use Rattle.std.proofs.Common.{◌≡◌, ℕ, ◌<◌, List, [], ◌∷◌, ◌++◌, length, take, get_or, map, Option, Result, Ok, Err, sym, ap, ◌∙◌, append-nil}
use Rattle.std.proofs.lemmas.Grind.{flat_map-append}
use Rattle.std.proofs.lemmas.List.Folds.{flat_map-map}
use Rattle.std.specs.List.{flat_map}
use Rattle.std.specs.Result.{IsErrAnd}
use Rattle.line_text.specs.Spelling.{spaced, text_of}
use Rattle.object_trait.specs.declared.event.Event.{Event}
use Rattle.outputs.specs.Out.{Puts, PutsItems}
use Rattle.outputs.specs.declared.out.OutFault.{OutFault}
use Rattle.outputs.proofs.Turns.{Puts-exit_at}
use Rattle.store_text.specs.Kept.{size_lines}
use Rattle.store_text.specs.declared.line.Line.{Line}
use Rattle.store_text.specs.declared.line.Line.TheVariants.{End}
use Rattle.store_text.specs.declared.line.ObjectLine.{ObjectLine}
use Rattle.history_text.specs.declared.event_line.EventLine.{EventLine}
use Rattle.history_text.specs.Canonical.{words_of, object_line, event_line, canonical_size, canonical_text}

-- the text of a line
abbrev pub line_text : Line EventLine → List ℕ
line_text line = spaced (words_of line) ++ 10 ∷ []

-- the text of two lists of lines
pub text_of-append : (xs ys : List (Line EventLine)) → text_of words_of (xs ++ ys) ≡ text_of words_of xs ++ text_of words_of ys
text_of-append xs ys = flat_map-append line_text xs ys

-- a line at which the output stopped, at the exit of a `?`
pub lines_exit : {X : Type 0} → PutsItems X → {a b c : Option (List ℕ)} {f g : Option OutFault} {e : OutFault} {result : Result (Unit {0}) OutFault}
    (line : X → Line EventLine) (xs : List X) (i : ℕ) (d : X) → i < length xs → Puts a b f (text_of words_of (map line (take i xs))) (Ok tt)
    → Puts b c g (line_text (line (get_or xs i d))) (Err e) → IsErrAnd result (λ y. y ≡ e) → Puts a c g (text_of words_of (map line xs)) result
lines_exit {X} items {a = a} {b = b} {f = f} line xs i d inside so_far stop exit =
    let text : X → List ℕ = λ y. line_text (line y) in
    let front : Puts a b f (flat_map text (take i xs)) (Ok tt) = rw (← flat_map-map line_text line (take i xs)) so_far in
    rw (flat_map-map line_text line xs) (Puts-exit_at items text xs i d inside front stop exit)

-- the size, the objects, the events and the last line
pub text-parts : (objects : List ObjectLine) (happened : List Event) →
    text_of words_of (size_lines (canonical_size objects)) ++ (text_of words_of (map object_line objects) ++ (text_of words_of (map event_line happened) ++ line_text End)) ≡ canonical_text objects happened
text-parts objects happened =
    let size = size_lines (canonical_size objects) in
    let last : text_of words_of (map event_line happened ++ End ∷ []) ≡ text_of words_of (map event_line happened) ++ line_text End =
    text_of-append (map event_line happened) (End ∷ []) ∙ ap (λ l. text_of words_of (map event_line happened) ++ l) (append-nil (line_text End)) in
    let rest : text_of words_of (map object_line objects ++ (map event_line happened ++ End ∷ [])) ≡ text_of words_of (map object_line objects) ++ (text_of words_of (map event_line happened) ++ line_text End) =
    text_of-append (map object_line objects) (map event_line happened ++ End ∷ []) ∙ ap (λ l. text_of words_of (map object_line objects) ++ l) last in
    sym (text_of-append size (map object_line objects ++ (map event_line happened ++ End ∷ [])) ∙ ap (λ l. text_of words_of size ++ l) rest)
