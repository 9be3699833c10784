-- Who alone keeps a transaction from an operation, whatever the others do: such a one is named first.
use Rattle.std.specs.Prelude.{ℕ, ◌+◌, ◌-◌, Bool, not, ◌&&◌, List, Some, is_some}
use Rattle.type_table.specs.Table.{Table}
use Rattle.type_table.specs.Run.{run}
use Rattle.escrow_laws.specs.Amounts.{Amounts, fall, rise}

-- u alone keeps t from what it did last: what t did is not legal from the lowest or the highest number that u may leave where no other did anything
abbrev pub keeps_alone : Table → Amounts → ℕ → (ℕ → List ℕ) → ℕ → ℕ → Bool
keeps_alone T a base own t u = not (is_some (run T (Some (base - fall a (own u))) (own t)) && is_some (run T (Some (base + rise a (own u))) (own t)))
