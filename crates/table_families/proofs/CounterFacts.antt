-- Counters have tables.
use Rattle.std.proofs.Common.{◌≡◌, ℕ, zero, suc, ◌+◌, ◌*◌, ◌-◌, ◌/◌, ◌%◌, ◌≤◌, false, leb, List, length, Some, refl, arith}
use Rattle.std.specs.Fmt.{decimal}
use Rattle.std.specs.List.{flat_map}
use Rattle.std.specs.Str.{bytes_eq}
use Rattle.std.proofs.lemmas.Bool.{leb-true}
use Rattle.table_families.specs.Amounts.{AreAmounts, amount_at}
use Rattle.table_families.specs.Counter.{counter, change_ops, change_step, CounterFits}
use Rattle.table_maker.specs.Made.{HasTable}
use Rattle.table_families.proofs.AmountFacts.{other_amount, legal-Some}
use Rattle.table_families.proofs.Twins.{shares, has_twin-flat_map, length-pieces}

-- a counter has two operations for each amount
pub length-changes : (amounts : List ℕ) → length (flat_map change_ops amounts) ≡ 2 * length amounts
length-changes amounts = length-pieces change_ops 2 amounts (λ a. refl)

-- operations of amounts with different texts differ
changes-differ : (a b : ℕ) → bytes_eq (decimal b) (decimal a) ≡ false → shares (change_ops a) (change_ops b) ≡ false
changes-differ a b h = rw h refl

-- a step leads to a number of at most the cap
change-inside : (cap a j s t : ℕ) → s ≤ cap → change_step cap a j s ≡ Some t → t ≤ cap
change-inside cap a zero s t below h =
    let both = legal-Some (leb (s + a) cap) (s + a) t h in
    omega (arith, leb-true (s + a) cap both.0, both.1)
change-inside cap a (suc j) s t below h = omega (arith, (legal-Some (leb a s) (s - a) t h).1)

-- a counter that fits has a table
pub counter-table : (cap : ℕ) (amounts : List ℕ) → AreAmounts cap amounts → CounterFits amounts → HasTable (counter cap amounts)
counter-table cap amounts good fits = record {
  some_states = omega arith;
  states_fit = omega (arith, good.cap_fits);
  some_ops = omega (arith, length-changes amounts, good.some);
  ops_fit = omega (arith, length-changes amounts, fits);
  no_twin = has_twin-flat_map 0 change_ops amounts (λ a. refl) (λ i j before below. changes-differ (amount_at amounts i) (amount_at amounts j) (other_amount cap amounts good i j before below));
  steps_inside = λ s k t s_below k_below h. omega (arith, change-inside cap (amount_at amounts (k / 2)) (k % 2) s t (omega arith) h);
}
