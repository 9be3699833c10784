-- What a file says of itself, as a row.
use Rattle.std.specs.Prelude.{◌≡◌, ℕ, [], ◌∷◌, pos, refl}
use Rattle.sqlite_value.specs.declared.value.Value.TheVariants.{Null, Int, Blob}
use Rattle.sqlite_value.specs.Order.{Row, column, bytes}
use Rattle.sqlite_trees.specs.Objects.{number_in}
use Rattle.journal.specs.declared.header.Header.{Header}

abbrev pub header_row : ℕ → Header → Row
header_row n h = Int (pos n) ∷ Null ∷ Int (pos h.format) ∷ Blob h.id ∷ Int (pos h.life) ∷ []

-- the columns after that of the position
abbrev pub format_column : ℕ
format_column = 2

abbrev pub id_column : ℕ
id_column = 3

abbrev pub life_column : ℕ
life_column = 4

abbrev pub header_told : Row → Header
header_told row = record { format = number_in (column row format_column); id = bytes (column row id_column); life = number_in (column row life_column) }

-- a row of which each column after the position says so
pub record ToldHeader (row : Row) (h : Header) : Type 0 where
  pub format : column row format_column ≡ Int (pos h.format)
  pub id : column row id_column ≡ Blob h.id
  pub life : column row life_column ≡ Int (pos h.life)

pub header_keyed : (n : ℕ) (h : Header) → (rest : Row) × (header_row n h ≡ Int (pos n) ∷ rest)
header_keyed n h = (Null ∷ Int (pos h.format) ∷ Blob h.id ∷ Int (pos h.life) ∷ [], refl)

pub header_read_back : (n : ℕ) (h : Header) → header_told (header_row n h) ≡ h
header_read_back n h = refl
