-- The text of a type, as a row.
use Rattle.std.specs.Prelude.{◌≡◌, ℕ, List, [], ◌∷◌, pos, refl}
use Rattle.sqlite_value.specs.declared.value.Value.TheVariants.{Null, Int, Text}
use Rattle.sqlite_value.specs.Order.{Row, column, bytes}

abbrev pub type_row : ℕ → List ℕ → Row
type_row n text = Int (pos n) ∷ Null ∷ Text text ∷ []

-- the column after that of the position
abbrev pub text_column : ℕ
text_column = 2

abbrev pub type_told : Row → List ℕ
type_told row = bytes (column row text_column)

pub type_keyed : (n : ℕ) (text : List ℕ) → (rest : Row) × (type_row n text ≡ Int (pos n) ∷ rest)
type_keyed n text = (Null ∷ Text text ∷ [], refl)

pub type_read_back : (n : ℕ) (text : List ℕ) → type_told (type_row n text) ≡ text
type_read_back n text = refl
