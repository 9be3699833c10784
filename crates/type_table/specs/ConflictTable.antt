-- Which requested operation conflicts with which held one.
use Rattle.std.specs.Prelude.{◌≡◌, ℕ, ◌<◌, ◌==◌, Bool, false, List, [], length, map, take, slice_index_or}
use Rattle.std.specs.Int.{bit_at}
use Rattle.std.specs.List.{range_with_len}

-- a row for each requested operation, and in it a cell for each held one

-- the row of a requested operation
abbrev pub conflict_row : List (List Bool) → ℕ → List Bool
conflict_row rows p = slice_index_or rows p []

-- p, requested, conflicts with q, held
abbrev pub conflicts : List (List Bool) → ℕ → ℕ → Bool
conflicts rows p q = slice_index_or (conflict_row rows p) q false

-- this many rows of this many cells
pub record IsSquare (ops : ℕ) (rows : List (List Bool)) : Type 0 where
  pub height : length rows ≡ ops
  pub width : (p : ℕ) → p < ops → length (conflict_row rows p) ≡ ops

-- ---- in words of 64 bits

-- the cells of the lowest bits of a word
abbrev pub cells_of : ℕ → ℕ → List Bool
cells_of ops word = map (λ q. bit_at word q == 1) (range_with_len 0 ops)

-- the rows of the first words
abbrev pub conflict_rows : ℕ → List ℕ → List (List Bool)
conflict_rows ops words = map (cells_of ops) (take ops words)
