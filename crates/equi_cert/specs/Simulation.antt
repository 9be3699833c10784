-- Simulations between the states of a type.
use Rattle.std.specs.Prelude.{◌≡◌, ℕ, Bool, true, ◌⊎◌, Some}
use Rattle.type_table.specs.Table.{Table, next}

-- for each pair, what is legal in the first state is legal in the second, and the next states are equal or a pair
abbrev pub IsSimulation : Table → (ℕ → ℕ → Bool) → Type 0
IsSimulation T related =
    (s t k s2 : ℕ) → related s t ≡ true → next T s k ≡ Some s2 → (t2 : ℕ) × (next T t k ≡ Some t2) × ((s2 ≡ t2) ⊎ (related s2 t2 ≡ true))
