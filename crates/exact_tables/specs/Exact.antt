-- Exact relations, and what a conflict table has to have where the relation is exact.
use Rattle.std.specs.Prelude.{◌≡◌, ◌↔◌, ℕ, ◌<◌, Bool, true, List, length, Some}
use Rattle.equi_cert.specs.Relation.{relates}
use Rattle.type_table.specs.ConflictTable.{conflicts}
use Rattle.type_table.specs.Run.{Looks}
use Rattle.type_table.specs.StateSet.{has, IsClosed}
use Rattle.type_table.specs.Table.{Table, IsTable}
use Rattle.declared_types.specs.declared.type_file.TypeFile.{TypeFile}
use Rattle.table_checker.specs.Condition.{fails_in_set, AreInside}
use Rattle.table_checker.specs.declared.condition.Condition.{Condition}

-- a relation is exact: it relates a state to another exactly where the first looks like the second, over all lists of operations
abbrev pub IsExact : Table → (ℕ → ℕ → Bool) → Type 0
IsExact T related = (s t : ℕ) → (related s t ≡ true) ↔ ((s < T.states) × (t < T.states) × Looks T (Some s) (Some t))

-- a file whose relation is exact, and whose set holds the initial state and is left by no step
pub record IsExactFile (file : TypeFile) : Type 0 where
  pub table : IsTable file.table
  pub exact : IsExact file.table (relates file.relation)
  pub begins_inside : has file.reach file.table.initial ≡ true
  pub closed : IsClosed file.table (has file.reach)

-- a conflict table has each pair of operations that fails at a state of the file's set
abbrev pub HasFailing : Condition → TypeFile → List (List Bool) → Type 0
HasFailing condition file rows = (p q s : ℕ) → AreInside file.table p q s → fails_in_set condition file p q s ≡ true → conflicts rows p q ≡ true

-- it has exactly the pairs of operations that fail at one: what a made table has
abbrev pub AreFailing : Condition → TypeFile → List (List Bool) → Type 0
AreFailing condition file made =
    (p q : ℕ) → p < length file.table.ops → q < length file.table.ops
    → (conflicts made p q ≡ true) ↔ ((s : ℕ) × (s < file.table.states) × (fails_in_set condition file p q s ≡ true))

-- a conflict table has each pair of operations of another one
abbrev pub HasPairsOf : Table → List (List Bool) → List (List Bool) → Type 0
HasPairsOf T made rows = (p q : ℕ) → p < length T.ops → q < length T.ops → conflicts made p q ≡ true → conflicts rows p q ≡ true
