-- Small lists of held operations, worked by hand.
use Rattle.std.specs.Prelude.{ℕ, Bool, true, false, List, [], ◌∷◌}
use Rattle.op_locks.specs.declared.held.Held.{Held}

-- transaction t holds operation k
abbrev pub hold : ℕ → ℕ → Held
hold t k = record { by = t; op = k }

-- 4 holds operations 0 and 1, and 5 came to hold operation 1 between them
abbrev pub three_held : List Held
three_held = hold 4 0 ∷ hold 5 1 ∷ hold 4 1 ∷ []

-- rows of which operation 0, requested, conflicts with operation 1, held, and no other pair
abbrev pub one_pair : List (List Bool)
one_pair = (false ∷ true ∷ []) ∷ (false ∷ false ∷ []) ∷ []
