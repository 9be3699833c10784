-- Statements of laws.
use Rattle.std.specs.Prelude.{◌≡◌, ◌↔◌, ℕ, ◌<◌, Bool, true, List}
use Rattle.equi_cert.specs.Simulation.{IsSimulation}
use Rattle.type_table.specs.Commute.{Covers, CoversStrongly}
use Rattle.type_table.specs.ConflictTable.{conflicts}
use Rattle.type_table.specs.StateSet.{has}
use Rattle.type_table.specs.Table.{Table, IsTable}
use Rattle.type_table.specs.declared.table_kind.TableKind.{TableKind}
use Rattle.declared_types.specs.declared.type_file.TypeFile.{TypeFile}
use Rattle.table_checker.specs.Checked.{condition_of, strong_condition_of}
use Rattle.exact_tables.specs.Exact.{IsExact, IsExactFile, HasFailing, AreFailing, HasPairsOf}

-- ---- looks-like is the greatest simulation

-- an exact relation is a simulation
abbrev pub ExactSimulates : Type 0
ExactSimulates = (T : Table) (related : ℕ → ℕ → Bool) → IsTable T → IsExact T related → IsSimulation T related

-- and has each pair of states of each simulation
abbrev pub ExactIsGreatest : Type 0
ExactIsGreatest =
    (T : Table) (related other : ℕ → ℕ → Bool) (s t : ℕ) → IsExact T related → IsSimulation T other
    → s < T.states → t < T.states → other s t ≡ true → related s t ≡ true

-- a simulation that has each pair of states of each simulation is exact
abbrev pub GreatestIsExact : Type 0
GreatestIsExact =
    (T : Table) (related : ℕ → ℕ → Bool) → IsTable T → IsSimulation T related
    → ((s t : ℕ) → related s t ≡ true → (s < T.states) × (t < T.states))
    → ((other : ℕ → ℕ → Bool) (s t : ℕ) → IsSimulation T other → s < T.states → t < T.states → other s t ≡ true → related s t ≡ true)
    → IsExact T related

-- ---- made tables are least

-- with an exact relation a conflict table covers, over all lists of operations, exactly where it has each pair that fails
abbrev pub CoversExactly : Type 0
CoversExactly =
    (kind : TableKind) (file : TypeFile) (rows : List (List Bool)) → IsExactFile file
    → Covers kind file.table (has file.reach) (conflicts rows) ↔ HasFailing (condition_of kind) file rows

-- and strongly exactly where it has each pair that fails the stronger condition
abbrev pub CoversStronglyExactly : Type 0
CoversStronglyExactly =
    (kind : TableKind) (file : TypeFile) (rows : List (List Bool)) → IsExactFile file
    → CoversStrongly kind file.table (has file.reach) (conflicts rows) ↔ HasFailing (strong_condition_of kind) file rows

-- so it covers exactly where it has each pair of the made one
abbrev pub MadeIsLeast : Type 0
MadeIsLeast =
    (kind : TableKind) (file : TypeFile) (made rows : List (List Bool)) → IsExactFile file → AreFailing (condition_of kind) file made
    → Covers kind file.table (has file.reach) (conflicts rows) ↔ HasPairsOf file.table made rows
