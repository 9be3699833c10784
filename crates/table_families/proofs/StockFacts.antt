-- Stocks have tables.
use Rattle.std.proofs.Common.{ℕ, ◌/◌, ◌%◌, codes, List, refl, arith}
use Rattle.table_families.specs.Amounts.{AreAmounts, amount_at}
use Rattle.table_maker.specs.Made.{HasTable}
use Rattle.table_families.proofs.AmountFacts.{AreApart, amount-inside, amounts-once, length-amounts}
use Rattle.table_families.specs.Stock.{stock, StockFits}

-- to give is not to take
apart : AreApart (codes "give:") (codes "take:")
apart = record { one_way = λ a b. refl; other_way = λ a b. refl }

-- a stock that fits has a table
pub stock-table : (cap : ℕ) (amounts : List ℕ) → AreAmounts cap amounts → StockFits amounts → HasTable (stock cap amounts)
stock-table cap amounts good fits =
    let count = length-amounts (codes "give:") (codes "take:") amounts in
    record {
      some_states = omega arith;
      states_fit = omega (arith, good.cap_fits);
      some_ops = omega (arith, count, good.some);
      ops_fit = omega (arith, count, fits);
      no_twin = amounts-once (codes "give:") (codes "take:") cap amounts apart good;
      steps_inside = λ s k t s_below k_below h. omega (arith, amount-inside cap (amount_at amounts (k / 4)) (k % 4) s t (omega arith) h);
    }
