-- Stocks: how many there are, from 0 to a cap, given and taken by given amounts; a refusal is an operation with a reply.
use Rattle.std.specs.Prelude.{ℕ, ◌+◌, ◌*◌, ◌/◌, ◌%◌, ◌≤◌, List, length, codes}
use Rattle.std.specs.List.{flat_map}
use Rattle.table_families.specs.Amounts.{amount_at, amount_ops, amount_step}
use Rattle.table_maker.specs.Made.{Family}

-- an account whose balance can't be asked: operation 4 i + j is the j-th of amount i
abbrev pub stock : ℕ → List ℕ → Family
stock cap amounts = record {
  name = codes "stock";
  states = cap + 1;
  ops = flat_map (amount_ops (codes "give:") (codes "take:")) amounts;
  step = λ s k. amount_step cap (amount_at amounts (k / 4)) (k % 4) s;
}

-- at most 64 operations
abbrev pub StockFits : List ℕ → Type 0
StockFits amounts = 4 * length amounts ≤ 64
