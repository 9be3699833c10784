-- The state at which an object began, as a row.
use Rattle.std.specs.Prelude.{◌≡◌, ℕ, [], ◌∷◌, pos, refl}
use Rattle.sqlite_value.specs.declared.value.Value.TheVariants.{Null, Int}
use Rattle.sqlite_value.specs.Order.{Row, column}
use Rattle.sqlite_trees.specs.Objects.{number_in}
use Rattle.journal.specs.declared.state_row.FirstState.{FirstState}

abbrev pub state_row : ℕ → FirstState → Row
state_row n first = Int (pos n) ∷ Null ∷ Int (pos first.state) ∷ []

-- the column after that of the position
abbrev pub state_column : ℕ
state_column = 2

abbrev pub state_told : Row → FirstState
state_told row = record { state = number_in (column row state_column) }

pub state_keyed : (n : ℕ) (first : FirstState) → (rest : Row) × (state_row n first ≡ Int (pos n) ∷ rest)
state_keyed n first = (Null ∷ Int (pos first.state) ∷ [], refl)

pub state_read_back : (n : ℕ) (first : FirstState) → state_told (state_row n first) ≡ first
state_read_back n first = refl
