-- Texts that declare a type, worked by hand.
use Rattle.std.specs.Prelude.{ℕ, List, take, codes, [], ◌∷◌}
use Rattle.line_text.specs.Comments.{lines_text}
use Rattle.number_text.specs.Examples.{credit_text}

-- the first line of a number after a comment and an empty line
abbrev pub commented_text : List ℕ
commented_text = lines_text (codes "# type of old" ∷ [] ∷ codes "  number  credit" ∷ [])

-- a comment that says `number`, before a table
abbrev pub noted_text : List ℕ
noted_text = lines_text (codes "# number" ∷ codes "type credit" ∷ [])

-- the credit's text, and the same without its `end`
abbrev pub credit_bytes : List ℕ
credit_bytes = lines_text credit_text

abbrev pub endless_credit : List ℕ
endless_credit = lines_text (take 7 credit_text)
