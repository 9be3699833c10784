-- The lines of a text, one after another.
use Rattle.std.proofs.Common.{◌≡◌, ◌∙◌, ℕ, ◌+◌, Bool, eqb, ltb, List, [], ◌∷◌, ◌++◌, length, take, drop, position, Option, Some, None, Result, Ok, Err, sym, ap}
use Rattle.std.proofs.lemmas.Bool.{ltb-true, ltb-false}
use Rattle.std.proofs.lemmas.Option.{cond_some}
use Rattle.std.proofs.lemmas.List.{append_assoc, append-nil}
use Rattle.std.proofs.lemmas.List.Splits.{slice_split_first}
use Rattle.std.proofs.lemmas.Grind.{flat_map-append}
use Rattle.std.specs.List.{flat_map, position_or_len, slice_split}
use Rattle.std.specs.Result.{IsErrAnd}
use Rattle.line_text.proofs.Lines.{none_is, slice_split_whole}
use Rattle.outputs.specs.Out.{Puts, PutsJoin, PutsStop}
use Rattle.outputs.specs.declared.out.OutFault.{OutFault}
use Rattle.outputs.proofs.Turns.{Puts-append, Puts-exit}
use Rattle.serving.specs.AnswerText.{behind, answer_lines}

abbrev is_lf : ℕ → Bool
is_lf b = eqb b 10

-- the first line, and those after it
pub lines-first : (text : List ℕ) (at : ℕ) → position is_lf text ≡ Some at → slice_split is_lf text ≡ take at text ∷ slice_split is_lf (drop (at + 1) text)
lines-first text at found =
    let place = position_or_len is_lf text in
    let is = cond_some (ltb place (length text)) place at found in
    let whole : slice_split is_lf text ≡ take place text ∷ slice_split is_lf (drop (place + 1) text) = slice_split_first is_lf text 0 (ltb-true _ _ is.0) in
    rw is.1 at whole

-- the only one
pub lines-last : (text : List ℕ) → position is_lf text ≡ None → slice_split is_lf text ≡ text ∷ []
lines-last text none = let place = position_or_len is_lf text in slice_split_whole is_lf text (ltb-false place _ (none_is (ltb place (length text)) place none))

-- one line more was written
pub lines-next : (text rest : List ℕ) (done : List (List ℕ)) (at : ℕ) → position is_lf rest ≡ Some at → slice_split is_lf text ≡ done ++ slice_split is_lf rest
    → slice_split is_lf text ≡ (done ++ take at rest ∷ []) ++ slice_split is_lf (drop (at + 1) rest)
lines-next text rest done at found so_far =
    so_far ∙ (ap (λ more. done ++ more) (lines-first rest at found) ∙ sym (append_assoc done (take at rest ∷ []) (slice_split is_lf (drop (at + 1) rest))))

pub text-next : (tag line : List ℕ) (done : List (List ℕ)) → flat_map (behind tag) (done ++ line ∷ []) ≡ flat_map (behind tag) done ++ behind tag line
text-next tag line done = flat_map-append (behind tag) done (line ∷ []) ∙ ap (λ t. flat_map (behind tag) done ++ t) (append-nil (behind tag line))

-- the output stopped at a line
pub lines-stop : PutsJoin → PutsStop → {a b c : Option (List ℕ)} {f g : Option OutFault} {e : OutFault} {result : Result (Unit {0}) OutFault} (tag text rest : List ℕ) (done : List (List ℕ)) (at : ℕ)
    → position is_lf rest ≡ Some at → slice_split is_lf text ≡ done ++ slice_split is_lf rest
    → Puts a b f (flat_map (behind tag) done) (Ok tt) → Puts b c g (behind tag (take at rest)) (Err e) → IsErrAnd result (λ d. d ≡ e) → Puts a c g (answer_lines tag text) result
lines-stop joined stopped tag text rest done at found so_far put stop exit =
    let more = flat_map (behind tag) (slice_split is_lf (drop (at + 1) rest)) in
    let all : answer_lines tag text ≡ flat_map (behind tag) done ++ (behind tag (take at rest) ++ more) =
    ap (flat_map (behind tag)) (so_far ∙ ap (λ ls. done ++ ls) (lines-first rest at found)) ∙ flat_map-append (behind tag) done (take at rest ∷ slice_split is_lf (drop (at + 1) rest)) in
    rw all (Puts-append joined put (Puts-exit stopped more stop exit))

-- the last line was written
pub lines-end : PutsJoin → {a b c : Option (List ℕ)} {f g : Option OutFault} {result : Result (Unit {0}) OutFault} (tag text rest : List ℕ) (done : List (List ℕ))
    → position is_lf rest ≡ None → slice_split is_lf text ≡ done ++ slice_split is_lf rest
    → Puts a b f (flat_map (behind tag) done) (Ok tt) → Puts b c g (behind tag rest) result → Puts a c g (answer_lines tag text) result
lines-end joined tag text rest done none so_far put last =
    let all : answer_lines tag text ≡ flat_map (behind tag) done ++ behind tag rest =
    ap (flat_map (behind tag)) (so_far ∙ ap (λ ls. done ++ ls) (lines-last rest none)) ∙ text-next tag rest done in
    rw all (Puts-append joined put last)
