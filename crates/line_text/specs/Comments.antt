-- Comments say nothing: a text is read as the one without them.
use Rattle.std.specs.Prelude.{◌≡◌, ℕ, ◌≤◌, Bool, true, not, List, [], ◌∷◌, ◌++◌, length, filter, Ok}
use Rattle.std.specs.List.{AllByRecursion, flat_map, list_all}
use Rattle.type_table.specs.Limits.{longest_line}
use Rattle.line_text.specs.Text.{is_comment}
use Rattle.line_text.specs.LineTests.{is_text_byte}
use Rattle.line_text.specs.Rules.{Rules}
use Rattle.line_text.specs.Outcome.{outcome_of}

-- a comment that passes the tests of a line's form
pub record IsComment (line : List ℕ) : Type 0 where
  pub comment : is_comment line ≡ true
  pub bytes : list_all is_text_byte line ≡ true
  pub short : length line ≤ longest_line

-- a line with its LF
abbrev pub ended : List ℕ → List ℕ
ended line = line ++ 10 ∷ []

-- the text of lines
abbrev pub lines_text : List (List ℕ) → List ℕ
lines_text lines = flat_map ended lines

-- a line is no comment
abbrev pub tells : List ℕ → Bool
tells line = not (is_comment line)

-- a line that begins as a comment is one
abbrev pub MaySkip : List ℕ → Type 0
MaySkip line = is_comment line ≡ true → IsComment line

-- where the lines that aren't comments are read as some items, all of them are
abbrev pub AreSkipped : {Item : Type 0} → Rules Item → List (List ℕ) → Type 0
AreSkipped {Item} g lines =
    (items : List Item) → AllByRecursion MaySkip lines → outcome_of g (lines_text (filter tells lines)) ≡ Ok items → outcome_of g (lines_text lines) ≡ Ok items
