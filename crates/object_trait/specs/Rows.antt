-- Rows that are kept for open transactions, one for each at most, in the order of the transactions' numbers. What a row is, and whose
-- it is, is given.
use Rattle.std.specs.Prelude.{◌≡◌, ℕ, suc, ◌<◌, nat_lt, List, length, slice_index_or, [], ◌∷◌, map, filter, not, ◌==◌, if◌then◌else◌}
use Rattle.object_trait.specs.Orders.{Pairs}

-- whose rows they are
abbrev pub row_owners : {E : Type 0} → (E → ℕ) → List E → List ℕ
row_owners by rows = map by rows

-- each is of an earlier transaction than those after it
abbrev pub RowsAscend : {E : Type 0} → (E → ℕ) → List E → Type 0
RowsAscend by rows = Pairs (λ a b. a < b) (map by rows)

-- whose row is at an index, 0 where there is none
abbrev pub owner_at : {E : Type 0} → (E → ℕ) → List E → ℕ → ℕ
owner_at by rows at = slice_index_or (map by rows) at 0

-- t's index among the rows: after those of earlier transactions
abbrev pub row_index : {E : Type 0} → (E → ℕ) → ℕ → List E → ℕ
row_index by t [] = 0
row_index by t (row ∷ rows) = if nat_lt (by row) t then suc (row_index by t rows) else 0

-- t's row is at this index
abbrev pub IsRowAt : {E : Type 0} → (E → ℕ) → ℕ → ℕ → List E → Type 0
IsRowAt by t at rows = (at < length rows) × (owner_at by rows at ≡ t)

-- what t's row shows, or this where it has no row
abbrev pub shown_of : {E S : Type 0} → (E → ℕ) → (E → S) → S → ℕ → List E → S
shown_of by show none t [] = none
shown_of by show none t (row ∷ rows) = if by row == t then show row else shown_of by show none t rows

-- with this row in the place of its transaction's, or before those of later ones
abbrev pub with_row : {E : Type 0} → (E → ℕ) → E → List E → List E
with_row by w [] = w ∷ []
with_row by w (row ∷ rows) = if by row == by w then w ∷ rows else (if nat_lt (by w) (by row) then w ∷ row ∷ rows else row ∷ with_row by w rows)

-- without that of t
abbrev pub without_row : {E : Type 0} → (E → ℕ) → ℕ → List E → List E
without_row by t rows = filter (λ row. not (by row == t)) rows
