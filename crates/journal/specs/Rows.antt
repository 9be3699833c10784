-- A list of values as the rows of a table.
use Rattle.std.specs.Prelude.{ℕ, suc, List, [], ◌∷◌}
use Rattle.sqlite_value.specs.Order.{Row}

-- the rows of these values, the first of them at position n
abbrev pub value_rows : {E : Type 0} → (ℕ → E → Row) → ℕ → List E → List Row
value_rows row_at n [] = []
value_rows row_at n (e ∷ es) = row_at n e ∷ value_rows row_at (suc n) es
