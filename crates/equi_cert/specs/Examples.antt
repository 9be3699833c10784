-- Small relations and types, worked by hand.
use Rattle.std.specs.Prelude.{ℕ, Bool, ◌==◌, ◌&&◌, ◌||◌, List, [], ◌∷◌, Some, None, codes}
use Rattle.std.specs.List.{list_any}
use Rattle.type_table.specs.Table.{Table}
use Rattle.type_table.specs.Examples.{ok_op}
use Rattle.equi_cert.specs.Relation.{relates, rows_by}

-- the states are equal, or one of these pairs
abbrev pub is_pair_among : List (ℕ × ℕ) → ℕ → ℕ → Bool
is_pair_among pairs s t = s == t || list_any (λ p. p.0 == s && p.1 == t) pairs

-- the relation of these pairs and the equal ones, over this many states
abbrev pub related_by : ℕ → List (ℕ × ℕ) → ℕ → ℕ → Bool
related_by states pairs = relates (rows_by states (is_pair_among pairs))

-- p and then q ends in 4, q and then p in 3, and these two allow the same
abbrev pub twin : Table
twin = record {
  name = codes "twin";
  states = 5;
  initial = 0;
  ops = ok_op (codes "p") ∷ ok_op (codes "q") ∷ ok_op (codes "r") ∷ [];
  steps = Some 1 ∷ Some 2 ∷ None ∷ None ∷ Some 3 ∷ None ∷ Some 4 ∷ None ∷ None ∷ None ∷ None ∷ Some 3 ∷ None ∷ None ∷ Some 4 ∷ [];
}
