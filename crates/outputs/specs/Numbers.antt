-- Lines of a keyword and numbers.
use Rattle.std.specs.Prelude.{ℕ, List, [], ◌∷◌, ◌++◌, map}
use Rattle.std.specs.Fmt.{decimal}
use Rattle.std.specs.List.{join_with_byte}

-- the keyword and the numbers with one space between two, and a LF
abbrev pub numbers_line : List ℕ → List ℕ → List ℕ
numbers_line keyword numbers = join_with_byte 32 (keyword ∷ map decimal numbers) ++ 10 ∷ []
