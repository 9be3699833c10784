-- Statements of laws of simulations and relations.
use Rattle.std.specs.Prelude.{◌≡◌, ℕ, ◌<◌, Bool, true, List, Some}
use Rattle.type_table.specs.Table.{Table}
use Rattle.type_table.specs.Run.{run, Looks}
use Rattle.type_table.specs.ConflictTable.{IsSquare}
use Rattle.equi_cert.specs.Relation.{relates}
use Rattle.equi_cert.specs.Simulation.{IsSimulation}

-- a pair of a simulation: the first state looks like the second, over all lists of operations
abbrev pub SimulationLooks : Type 0
SimulationLooks = (T : Table) (related : ℕ → ℕ → Bool) (s t : ℕ) → IsSimulation T related → related s t ≡ true → Looks T (Some s) (Some t)

-- two lists that end in a pair of a simulation: the first end looks like the second
abbrev pub EndsLook : Type 0
EndsLook =
    (T : Table) (related : ℕ → ℕ → Bool) (s a b : ℕ) (v w : List ℕ) → IsSimulation T related
    → run T (Some s) v ≡ Some a → run T (Some s) w ≡ Some b → related a b ≡ true → Looks T (run T (Some s) v) (run T (Some s) w)

-- relations of the same states with the same pairs are equal
abbrev pub SamePairs : Type 0
SamePairs =
    (states : ℕ) (old new : List (List Bool)) → IsSquare states old → IsSquare states new
    → ((s t : ℕ) → s < states → t < states → relates old s t ≡ relates new s t) → old ≡ new
