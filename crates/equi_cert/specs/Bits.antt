-- A relation in words of 64 bits.
use Rattle.std.specs.Prelude.{ℕ, ◌+◌, ◌*◌, ◌/◌, ◌%◌, ◌≤◌, ◌==◌, Bool, List, length, slice_index_or}
use Rattle.std.specs.Int.{bit_at}
use Rattle.equi_cert.specs.Relation.{rows_by}

-- the bit at a position is set
abbrev pub has_bit : List ℕ → ℕ → Bool
has_bit words position = bit_at (slice_index_or words (position / 64) 0) (position % 64) == 1

-- the words have a position for each cell
abbrev pub HaveCells : ℕ → List ℕ → Type 0
HaveCells states words = states * states ≤ 64 * length words

-- the cell of s and t is the bit at s * states + t
abbrev pub cell_of : ℕ → List ℕ → ℕ → ℕ → Bool
cell_of states words s t = has_bit words (s * states + t)

-- the rows that the words show
abbrev pub rows_of_bits : ℕ → List ℕ → List (List Bool)
rows_of_bits states words = rows_by states (cell_of states words)
