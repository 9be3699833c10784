-- How far each state of a table is from each other one.
use Rattle.std.specs.Prelude.{◌≡◌, ◌↔◌, ◌⊎◌, ℕ, zero, suc, ◌+◌, ◌*◌, ◌<◌, Bool, true, List, Option, Some, None, slice_index_or}
use Rattle.equi_cert.specs.Relation.{relates}
use Rattle.type_table.specs.Table.{Table, IsTable}
use Rattle.exact_tables.specs.Tell.{IsDistance}

-- a number for each two states: that of s and t is at s * states + t
pub record Cells : Type 0 where
  pub states : ℕ
  pub cells : List ℕ

abbrev pub number_at : Cells → ℕ → ℕ → ℕ
number_at d s t = slice_index_or d.cells (s * d.states + t) 0

-- 0 means no distance
abbrev pub from_number : ℕ → Option ℕ
from_number zero = None
from_number (suc n) = Some (suc n)

abbrev pub distance : Cells → ℕ → ℕ → Option ℕ
distance d s t = from_number (number_at d s t)

-- how far s is from what may be nothing, from which the empty list distinguishes it
abbrev pub distance_to : Cells → ℕ → Option ℕ → Option ℕ
distance_to d s None = Some 0
distance_to d s (Some t) = distance d s t

-- each is how far the two states are
pub record AreDistances (T : Table) (d : Cells) : Type 0 where
  pub table : IsTable T
  pub states : d.states ≡ T.states
  pub each : (s t : ℕ) → s < T.states → t < T.states → IsDistance T s t (distance d s t)

-- to the pairs of a relation were added those of s and a state below n that have no distance
abbrev pub AddsAlike : Cells → ℕ → ℕ → List (List Bool) → List (List Bool) → Type 0
AddsAlike d s n old new = (a b : ℕ) → (relates new a b ≡ true) ↔ ((relates old a b ≡ true) ⊎ ((a ≡ s) × (b < n) × (distance d a b ≡ None)))
