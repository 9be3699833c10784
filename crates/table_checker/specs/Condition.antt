-- The finite conditions that the checker tests of a pair of operations at a state, and the first triple that fails.
use Rattle.std.specs.Prelude.{◌≡◌, ℕ, ◌+◌, ◌*◌, ◌<◌, Bool, true, false, not, ◌&&◌, ◌||◌, List, [], ◌∷◌, length, Option, Some, is_some}
use Rattle.equi_cert.specs.Relation.{relates}
use Rattle.type_table.specs.Table.{Table, next}
use Rattle.type_table.specs.Run.{run}
use Rattle.type_table.specs.StateSet.{has}
use Rattle.type_table.specs.ConflictTable.{conflicts}
use Rattle.declared_types.specs.declared.type_file.TypeFile.{TypeFile}
use Rattle.table_checker.specs.declared.condition.Condition.{Condition}
use Rattle.table_checker.specs.declared.condition.Condition.TheVariants.{Forward, Backward, BackwardBothWays}

-- both ends are there, and the first is related to the second
abbrev pub ends_relate : (ℕ → ℕ → Bool) → Option ℕ → Option ℕ → Bool
ends_relate related (Some a) (Some b) = related a b
ends_relate related a b = false

-- the end of one operation and then another
abbrev pub end_of_two : Table → ℕ → ℕ → ℕ → Option ℕ
end_of_two T s first second = run T (Some s) (first ∷ second ∷ [])

-- where p and q are both legal, each order is legal and the ends are related both ways
unfoldable pub passes_forward : Table → (ℕ → ℕ → Bool) → ℕ → ℕ → ℕ → Bool
passes_forward T related p q s =
    not (is_some (next T s p) && is_some (next T s q))
    || (ends_relate related (end_of_two T s p q) (end_of_two T s q p) && ends_relate related (end_of_two T s q p) (end_of_two T s p q))

-- where q, held, and then p, requested, is legal, the other order is, and the end of q then p is related to that of p then q
unfoldable pub passes_backward : Table → (ℕ → ℕ → Bool) → ℕ → ℕ → ℕ → Bool
passes_backward T related p q s = not (is_some (end_of_two T s q p)) || ends_relate related (end_of_two T s q p) (end_of_two T s p q)

-- the same, and related both ways
unfoldable pub passes_both_ways : Table → (ℕ → ℕ → Bool) → ℕ → ℕ → ℕ → Bool
passes_both_ways T related p q s =
    not (is_some (end_of_two T s q p))
    || (ends_relate related (end_of_two T s q p) (end_of_two T s p q) && ends_relate related (end_of_two T s p q) (end_of_two T s q p))

abbrev pub passes : Condition → Table → (ℕ → ℕ → Bool) → ℕ → ℕ → ℕ → Bool
passes Forward = passes_forward
passes Backward = passes_backward
passes BackwardBothWays = passes_both_ways

-- a state of the set at which the pair doesn't pass
abbrev pub fails_in_set : Condition → TypeFile → ℕ → ℕ → ℕ → Bool
fails_in_set condition file p q s = has file.reach s && not (passes condition file.table (relates file.relation) p q s)

-- a pair outside the conflict table, p requested and q held, that fails at a state of the set
abbrev pub fails_at : Condition → TypeFile → List (List Bool) → ℕ → ℕ → ℕ → Bool
fails_at condition file rows p q s = not (conflicts rows p q) && fails_in_set condition file p q s

-- two operations and a state of the table
pub record AreInside (T : Table) (p q s : ℕ) : Type 0 where
  pub requested : p < length T.ops
  pub held : q < length T.ops
  pub state : s < T.states

-- the place of a triple in ascending order
abbrev pub triple_number : Table → ℕ → ℕ → ℕ → ℕ
triple_number T p q s = (p * length T.ops + q) * T.states + s

-- no pair outside the conflict table fails at a state of the set
abbrev pub PassesEverywhere : Condition → TypeFile → List (List Bool) → Type 0
PassesEverywhere condition file rows =
    (p q s : ℕ) → AreInside file.table p q s → fails_at condition file rows p q s ≡ false

-- a triple that fails where none before it does
pub record IsFirstFailure (condition : Condition) (file : TypeFile) (rows : List (List Bool)) (p q s : ℕ) : Type 0 where
  pub inside : AreInside file.table p q s
  pub fails : fails_at condition file rows p q s ≡ true
  pub first : (a b r : ℕ) → AreInside file.table a b r → triple_number file.table a b r < triple_number file.table p q s → fails_at condition file rows a b r ≡ false
