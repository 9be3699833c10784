-- How the text of a number is put together from what its writer writes.
use Rattle.std.proofs.Common.{◌≡◌, ℕ, List, [], ◌∷◌, ◌++◌, map, sym, ap, ◌∙◌, append-nil}
use Rattle.std.proofs.lemmas.Grind.{flat_map-append}
use Rattle.std.proofs.lemmas.List.Folds.{flat_map-map}
use Rattle.std.specs.List.{flat_map}
use Rattle.line_text.specs.Spelling.{spaced, text_of}
use Rattle.number_types.specs.declared.number_call.NumberCall.{NumberCall}
use Rattle.number_text.specs.declared.number_line.NumberLine.{NumberLine}
use Rattle.number_text.specs.declared.number_line.NumberLine.TheVariants.{Called, Max, Initial, Call, End}
use Rattle.number_types.specs.Number.{Number}
use Rattle.number_text.specs.Canonical.{call_words, words_of, canonical_text}

-- the text of two lists of lines
pub text_of-append : (xs ys : List NumberLine) → text_of words_of (xs ++ ys) ≡ text_of words_of xs ++ text_of words_of ys
text_of-append xs ys = flat_map-append (λ line. spaced (words_of line) ++ 10 ∷ []) xs ys

-- the line of a call
abbrev pub call_text : NumberCall → List ℕ
call_text c = spaced (call_words c) ++ 10 ∷ []

-- the text of the lines of calls
pub calls_text : (cs : List NumberCall) → text_of words_of (map Call cs) ≡ flat_map call_text cs
calls_text cs = flat_map-map (λ line. spaced (words_of line) ++ 10 ∷ []) Call cs

-- the first three lines
abbrev pub head_lines : Number → List NumberLine
head_lines v = Called v.name ∷ Max v.max ∷ Initial v.initial ∷ []

-- the whole text: the head, the calls and the last line
pub text-parts : (v : Number) → text_of words_of (head_lines v) ++ (text_of words_of (map Call v.calls) ++ (spaced (words_of End) ++ 10 ∷ [])) ≡ canonical_text v
text-parts v =
    let behind : text_of words_of (map Call v.calls ++ End ∷ []) ≡ text_of words_of (map Call v.calls) ++ (spaced (words_of End) ++ 10 ∷ []) =
    text_of-append (map Call v.calls) (End ∷ []) ∙ ap (λ l. text_of words_of (map Call v.calls) ++ l) (append-nil (spaced (words_of End) ++ 10 ∷ [])) in
    sym (text_of-append (head_lines v) (map Call v.calls ++ End ∷ []) ∙ ap (λ l. text_of words_of (head_lines v) ++ l) behind)
