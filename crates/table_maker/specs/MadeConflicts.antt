-- Conflict tables that are made: which pairs of operations have to conflict.
use Rattle.std.specs.Prelude.{◌≡◌, ◌↔◌, ◌⊎◌, ℕ, ◌<◌, Bool, true, List, length}
use Rattle.type_table.specs.ConflictTable.{conflicts, IsSquare}
use Rattle.declared_types.specs.declared.type_file.TypeFile.{TypeFile}
use Rattle.table_checker.specs.Condition.{fails_in_set}
use Rattle.table_checker.specs.declared.condition.Condition.{Condition}

-- the pair of p, requested, and q, held, fails at some state of the file's set
abbrev pub FailsSomewhere : Condition → TypeFile → ℕ → ℕ → Type 0
FailsSomewhere condition file p q = (s : ℕ) × (s < file.table.states) × (fails_in_set condition file p q s ≡ true)

-- to the old pairs were added those of p and an operation below q that fail somewhere
abbrev pub AddsFailing : Condition → TypeFile → ℕ → ℕ → List (List Bool) → List (List Bool) → Type 0
AddsFailing condition file p q old new =
    (a b : ℕ) → (conflicts new a b ≡ true) ↔ ((conflicts old a b ≡ true) ⊎ ((a ≡ p) × (b < q) × FailsSomewhere condition file p b))

-- the table is one of the file's operations, and has exactly the pairs that fail somewhere
pub record AreMadeConflicts (condition : Condition) (file : TypeFile) (rows : List (List Bool)) : Type 0 where
  pub square : IsSquare (length file.table.ops) rows
  pub exact : (p q : ℕ) → p < length file.table.ops → q < length file.table.ops → (conflicts rows p q ≡ true) ↔ FailsSomewhere condition file p q
