-- Transactions that are prepared, as rows.
use Rattle.std.specs.Prelude.{◌≡◌, ℕ, [], ◌∷◌, pos, refl}
use Rattle.sqlite_value.specs.declared.value.Value.TheVariants.{Null, Int, Text}
use Rattle.sqlite_value.specs.Order.{Row, bytes, column}
use Rattle.sqlite_trees.specs.Objects.{number_in}
use Rattle.journal.specs.declared.prepared_row.Prepared.{Prepared}

abbrev pub prepared_row : ℕ → Prepared → Row
prepared_row n p = Int (pos n) ∷ Null ∷ Text p.key ∷ Int (pos p.given.life) ∷ Int (pos p.given.number) ∷ Int (pos p.number) ∷ Int (pos p.until) ∷ []

-- the columns after that of the position: the key, the life and the number of the name that the client has, the number in the present history,
-- and what the client said of its waiting
abbrev pub key_of_prepared : ℕ
key_of_prepared = 2

abbrev pub given_life : ℕ
given_life = 3

abbrev pub given_number : ℕ
given_number = 4

abbrev pub present_number : ℕ
present_number = 5

abbrev pub until_column : ℕ
until_column = 6

abbrev pub prepared_told : Row → Prepared
prepared_told row = record {
  key = bytes (column row key_of_prepared);
  given = record { life = number_in (column row given_life); number = number_in (column row given_number) };
  number = number_in (column row present_number);
  until = number_in (column row until_column);
}

-- a row of which each column after the position says so
pub record ToldPrepared (row : Row) (p : Prepared) : Type 0 where
  pub key : column row key_of_prepared ≡ Text p.key
  pub life : column row given_life ≡ Int (pos p.given.life)
  pub given : column row given_number ≡ Int (pos p.given.number)
  pub number : column row present_number ≡ Int (pos p.number)
  pub until : column row until_column ≡ Int (pos p.until)

pub prepared_keyed : (n : ℕ) (p : Prepared) → (rest : Row) × (prepared_row n p ≡ Int (pos n) ∷ rest)
prepared_keyed n p = (Null ∷ Text p.key ∷ Int (pos p.given.life) ∷ Int (pos p.given.number) ∷ Int (pos p.number) ∷ Int (pos p.until) ∷ [], refl)

pub prepared_read_back : (n : ℕ) (p : Prepared) → prepared_told (prepared_row n p) ≡ p
prepared_read_back n p = refl
