-- Types whose states are numbers, and how far lists of operations move a number.
use Rattle.std.specs.Prelude.{◌≡◌, ℕ, ◌+◌, ◌-◌, ◌≤◌, List, [], ◌∷◌, Some, IsSome}
use Rattle.type_table.specs.Table.{Table, next}

-- how much each operation gives to the number, and how much it takes from it
pub record Amounts : Type 0 where
  pub gives : ℕ → ℕ
  pub takes : ℕ → ℕ

-- the type is numeric: its states are numbers, and each operation moves all of them as far, and is legal between any two at which it is legal
pub record IsNumeric (T : Table) (a : Amounts) : Type 0 where
  pub moves : (s k t : ℕ) → next T s k ≡ Some t → t + a.takes k ≡ s + a.gives k
  pub between : (low s high k : ℕ) → low ≤ s → s ≤ high → IsSome (next T low k) → IsSome (next T high k) → IsSome (next T s k)

-- how far below where it began the number is at the lowest, along these operations
abbrev pub fall : Amounts → List ℕ → ℕ
fall a [] = 0
fall a (k ∷ ks) = (fall a ks + a.takes k) - a.gives k

-- and how far above at the highest
abbrev pub rise : Amounts → List ℕ → ℕ
rise a [] = 0
rise a (k ∷ ks) = (rise a ks + a.gives k) - a.takes k
