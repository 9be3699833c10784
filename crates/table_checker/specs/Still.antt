-- Operations of a table that lead from each state to an equal one, or to one that is related both ways: a test of single states.
use Rattle.std.specs.Prelude.{◌≡◌, ℕ, zero, suc, ◌<◌, Bool, true, false, not, ◌&&◌, ◌||◌, ◌==◌, List, length, get_or, Option, Some, None}
use Rattle.type_table.specs.Table.{next}
use Rattle.type_table.specs.StateSet.{has}
use Rattle.type_table.specs.declared.kind.Kind.{Kind}
use Rattle.equi_cert.specs.Relation.{relates}
use Rattle.declared_types.specs.Declarations.{IsByTable}
use Rattle.declared_types.specs.declared.type_file.TypeFile.{TypeFile}

-- it holds of each number below n
abbrev pub all_below : ℕ → (ℕ → Bool) → Bool
all_below zero test = true
all_below (suc n) test = all_below n test && test n

-- the next state, if there is one, is the same or related both ways
abbrev pub leads_still : (ℕ → ℕ → Bool) → ℕ → Option ℕ → Bool
leads_still related s None = true
leads_still related s (Some t) = s == t || (related s t && related t s)

abbrev pub is_still_at : TypeFile → ℕ → ℕ → Bool
is_still_at file k s = not (has file.reach s) || leads_still (relates file.relation) s (next file.table s k)

-- at each state of the file's set
abbrev pub is_still_in : TypeFile → ℕ → Bool
is_still_in file k = all_below file.table.states (is_still_at file k)

-- what is said of each operation is whether it passes the test
abbrev pub AreStill : TypeFile → List Bool → Type 0
AreStill file still = (k : ℕ) → k < length file.table.ops → get_or still k false ≡ is_still_in file k

-- of a type that a table declares it is known
abbrev pub HoldsStill : Kind → TypeFile → List Bool → Type 0
HoldsStill kind file still = IsByTable kind → AreStill file still
