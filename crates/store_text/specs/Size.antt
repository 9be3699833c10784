-- How many objects a text may have, which the first of its lines that has words may say.
use Rattle.std.specs.Prelude.{ℕ, ◌≤◌, ◌&&◌, List, [], ◌∷◌, nat_le, if◌then◌else◌, Option, Some, None, codes}
use Rattle.decimals.specs.Decimals.{number_of}
use Rattle.store_limits.specs.Standard.{standard}
use Rattle.line_text.specs.Shapes.{is_key}
use Rattle.line_text.specs.Text.{TextLine, lines_of, content_of}

-- the most that a text may say
abbrev pub most_size : ℕ
most_size = 65536

-- the number of objects that a text may have: the one that it says, or 256
abbrev pub may_have : Option ℕ → ℕ
may_have None = standard.objects
may_have (Some n) = n

-- a number that a text may say
abbrev pub IsSize : ℕ → Type 0
IsSize n = (1 ≤ n) × (n ≤ most_size)

-- ---- the first line that has words

-- these words, or where there are none others
abbrev pub words_or : List (List ℕ) → List (List ℕ) → List (List ℕ)
words_or [] others = others
words_or (w ∷ words) others = w ∷ words

abbrev pub first_words : List TextLine → List (List ℕ)
first_words [] = []
first_words (l ∷ lines) = words_or (content_of l.bytes) (first_words lines)

-- ---- what it says

-- a number from 1 to 65,536; for any other, whose line is refused, the most
abbrev pub size_or_most : Option ℕ → ℕ
size_or_most None = most_size
size_or_most (Some n) = if nat_le 1 n && nat_le n most_size then n else most_size

-- the number of an `objects` line; a line with more words or fewer is refused too
abbrev pub size_said : List (List ℕ) → ℕ
size_said (key ∷ number ∷ []) = size_or_most (number_of number)
size_said words = most_size

-- where the words are those of an `objects` line
abbrev pub size_in : List (List ℕ) → Option ℕ
size_in words = if is_key words (codes "objects") then Some (size_said words) else None

-- what a text says of the number of its objects
abbrev pub text_size : List ℕ → Option ℕ
text_size text = size_in (first_words (lines_of text))
