-- Statements of laws of types.
use Rattle.std.specs.Prelude.{◌≡◌, ℕ, ◌<◌, Bool, true, ◌++◌, List, length, Option, Some}
use Rattle.type_table.specs.Table.{Table, IsTable, next, table_at}
use Rattle.type_table.specs.Run.{run, IsLegal, Looks, AreEqui}
use Rattle.type_table.specs.StateSet.{IsClosed}

-- a run along one list and then another
abbrev pub RunsAlong : Type 0
RunsAlong = (T : Table) (from : Option ℕ) (v w : List ℕ) → run T from (v ++ w) ≡ run T (run T from v) w

-- where a list leads doesn't depend on the state at which a type begins
abbrev pub RunsAlike : Type 0
RunsAlike = (T : Table) (s : ℕ) (from : Option ℕ) (ks : List ℕ) → run (table_at T s) from ks ≡ run T from ks

-- extension: what looks like another looks like it after the same operations
abbrev pub LooksAfter : Type 0
LooksAfter = (T : Table) (a b : Option ℕ) (w : List ℕ) → Looks T a b → IsLegal T a w → IsLegal T b w × Looks T (run T a w) (run T b w)

-- and so for equieffective states
abbrev pub EquiAfter : Type 0
EquiAfter = (T : Table) (a b : Option ℕ) (w : List ℕ) → AreEqui T a b → IsLegal T a w → IsLegal T b w × AreEqui T (run T a w) (run T b w)

-- what looks-like and equieffective have in common: each state is so to itself, it goes through a third one, and it stays so after
-- the same operations
pub record IsExtended (T : Table) (R : Option ℕ → Option ℕ → Type 0) : Type 0 where
  pub itself : (a : Option ℕ) → R a a
  pub through : (a b c : Option ℕ) → R a b → R b c → R a c
  pub after : (a b : Option ℕ) (w : List ℕ) → R a b → IsLegal T a w → IsLegal T b w × R (run T a w) (run T b w)

abbrev pub LooksExtends : Type 0
LooksExtends = (T : Table) → IsExtended T (Looks T)

abbrev pub EquiExtends : Type 0
EquiExtends = (T : Table) → IsExtended T (AreEqui T)

-- a step is of an operation of the table, from a state to a state
abbrev pub StepsWithin : Type 0
StepsWithin = (T : Table) (s k t : ℕ) → IsTable T → next T s k ≡ Some t → (s < T.states) × (k < length T.ops) × (t < T.states)

-- from a state of a closed set a list ends in the set
abbrev pub EndsInside : Type 0
EndsInside = (T : Table) (set : ℕ → Bool) (s e : ℕ) (w : List ℕ) → IsClosed T set → set s ≡ true → run T (Some s) w ≡ Some e → set e ≡ true

-- from a state of a table it ends at one of its states
abbrev pub EndsWithin : Type 0
EndsWithin = (T : Table) (s e : ℕ) (w : List ℕ) → IsTable T → s < T.states → run T (Some s) w ≡ Some e → e < T.states

-- what is legal ends somewhere
abbrev pub LegalEnds : Type 0
LegalEnds = (T : Table) (from : Option ℕ) (w : List ℕ) → IsLegal T from w → (e : ℕ) × (run T from w ≡ Some e)
