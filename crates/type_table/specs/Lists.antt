-- Statements of laws of lists of operations that commute with each other.
use Rattle.std.specs.Prelude.{◌≡◌, ℕ, Bool, true, List, ◌++◌, Contains, Some}
use Rattle.type_table.specs.Table.{Table}
use Rattle.type_table.specs.Run.{run, IsLegal, Looks, AreEqui}
use Rattle.type_table.specs.StateSet.{IsClosed}
use Rattle.type_table.specs.Commute.{CommuteForward, CommutesBackward, CommutesBackwardBothWays}

-- each operation of u commutes forward with each of v, and both lists are legal: both orders are legal and end equieffective
abbrev pub ListsForward : Type 0
ListsForward =
    (T : Table) (set : ℕ → Bool) (s : ℕ) (u v : List ℕ) → IsClosed T set → set s ≡ true
    → ((p q : ℕ) → Contains u p → Contains v q → CommuteForward T set p q)
    → IsLegal T (Some s) u → IsLegal T (Some s) v
    → IsLegal T (Some s) (u ++ v) × IsLegal T (Some s) (v ++ u) × AreEqui T (run T (Some s) (u ++ v)) (run T (Some s) (v ++ u))

-- each operation of v right commutes backward with each of u, and u then v is legal: v then u is legal, and the first end looks like the second
abbrev pub ListsBackward : Type 0
ListsBackward =
    (T : Table) (set : ℕ → Bool) (s : ℕ) (u v : List ℕ) → IsClosed T set → set s ≡ true
    → ((p q : ℕ) → Contains v p → Contains u q → CommutesBackward T set p q)
    → IsLegal T (Some s) (u ++ v)
    → IsLegal T (Some s) (v ++ u) × Looks T (run T (Some s) (u ++ v)) (run T (Some s) (v ++ u))

-- the same in the two-way form: the two ends are equieffective
abbrev pub ListsBackwardBothWays : Type 0
ListsBackwardBothWays =
    (T : Table) (set : ℕ → Bool) (s : ℕ) (u v : List ℕ) → IsClosed T set → set s ≡ true
    → ((p q : ℕ) → Contains v p → Contains u q → CommutesBackwardBothWays T set p q)
    → IsLegal T (Some s) (u ++ v)
    → IsLegal T (Some s) (v ++ u) × AreEqui T (run T (Some s) (u ++ v)) (run T (Some s) (v ++ u))
