-- What the row at a key's place says: the outcome itself, as the formats 6 to 8 have it, or a pointer: the number of an outcome, whose row is elsewhere.
use Rattle.std.specs.Prelude.{ℕ, Bool, true, false, [], ◌∷◌, pos, if◌then◌else◌}
use Rattle.sqlite_value.specs.declared.value.Value.{Value}
use Rattle.sqlite_value.specs.declared.value.Value.TheVariants.{Null, Int, Real, Text, Blob}
use Rattle.sqlite_value.specs.Order.{Row, column}
use Rattle.sqlite_trees.specs.Objects.{number_in}
use Rattle.journal.specs.declared.place_row.PlaceRow.{PlaceRow}
use Rattle.journal.specs.declared.place_row.PlaceRow.TheVariants.{Pointer, Whole}
use Rattle.journal.specs.OutcomeRow.{key_column, number_column, outcome_told}

abbrev pub is_null : Value → Bool
is_null Null = true
is_null (Int n) = false
is_null (Real x) = false
is_null (Text t) = false
is_null (Blob b) = false

-- the row of a pointer: no key, no word and no replies, and the number
abbrev pub pointer_row : ℕ → ℕ → Row
pointer_row p n = Int (pos p) ∷ Null ∷ Null ∷ Null ∷ Null ∷ Int (pos n) ∷ []

abbrev pub place_told : Row → PlaceRow
place_told row = if is_null (column row key_column) then Pointer (number_in (column row number_column)) else Whole (outcome_told row)
