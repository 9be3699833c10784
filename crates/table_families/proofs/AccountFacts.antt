-- Accounts have tables.
use Rattle.std.proofs.Common.{◌≡◌, ℕ, ◌+◌, ◌*◌, ◌-◌, ◌/◌, ◌%◌, ◌≤◌, Bool, true, false, ltb, eqb, cond, codes, List, [], ◌∷◌, length, map, Some, refl, arith}
use Rattle.std.specs.List.{flat_map, range_with_len}
use Rattle.std.proofs.lemmas.List.{length-append}
use Rattle.std.proofs.lemmas.List.Concat.{flat_map_single}
use Rattle.std.proofs.lemmas.List.FromFn.{length-map-range_with_len}
use Rattle.type_table.specs.Op.{has_twin}
use Rattle.type_table.specs.declared.op.Op.{Op}
use Rattle.table_families.specs.Account.{account, balance_op, AccountFits}
use Rattle.table_families.specs.Amounts.{AreAmounts, amount_at, amount_ops, amount_step}
use Rattle.table_maker.specs.Made.{HasTable, where_legal}
use Rattle.table_families.proofs.AmountFacts.{AreApart, amount-inside, amounts-once, legal-Some, length-amounts}
use Rattle.table_families.proofs.Replies.{replies-once}
use Rattle.table_families.proofs.Twins.{shares, has_twin-append, shares-flat_map, flat_map-shares}

-- the operations of its amounts
abbrev four_ops : ℕ → List Op
four_ops = amount_ops (codes "deposit:") (codes "withdraw:")

-- a deposit is no withdrawal
apart : AreApart (codes "deposit:") (codes "withdraw:")
apart = record { one_way = λ a b. refl; other_way = λ a b. refl }

-- an account has four for each amount, and one for each balance
pub length-account : (cap : ℕ) (amounts : List ℕ) → length (account cap amounts).ops ≡ 4 * length amounts + (cap + 1)
length-account cap amounts = omega (arith, length-append (flat_map four_ops amounts) (map balance_op (range_with_len 0 (cap + 1))), length-amounts (codes "deposit:") (codes "withdraw:") amounts, length-map-range_with_len balance_op 0 (cap + 1))

-- operations of an amount differ from those of balances
amount-balances : (a : ℕ) (balances : List ℕ) → shares (four_ops a) (map balance_op balances) ≡ false
amount-balances a balances = rw (← flat_map_single balance_op balances) (shares-flat_map 0 (λ b. balance_op b ∷ []) (four_ops a) balances (λ i below. refl))

-- no operation comes twice
account-once : (cap : ℕ) (amounts : List ℕ) → AreAmounts cap amounts → has_twin (account cap amounts).ops ≡ false
account-once cap amounts good =
    has_twin-append (flat_map four_ops amounts) (map balance_op (range_with_len 0 (cap + 1)))
    (amounts-once (codes "deposit:") (codes "withdraw:") cap amounts apart good)
    (replies-once (codes "balance") (cap + 1) (omega (arith, good.cap_fits)))
    (flat_map-shares 0 four_ops amounts (map balance_op (range_with_len 0 (cap + 1))) (λ i below. amount-balances (amount_at amounts i) (range_with_len 0 (cap + 1))))

-- a step leads to a balance of at most the cap
step-inside : (is_amount is_here : Bool) (cap a j s t : ℕ) → s ≤ cap → cond is_amount (amount_step cap a j s) (where_legal is_here s) ≡ Some t → t ≤ cap
step-inside true is_here cap a j s t below h = amount-inside cap a j s t below h
step-inside false is_here cap a j s t below h = omega (arith, (legal-Some is_here s t h).1)

-- an account that fits has a table
pub account-table : (cap : ℕ) (amounts : List ℕ) → AreAmounts cap amounts → AccountFits cap amounts → HasTable (account cap amounts)
account-table cap amounts good fits = record {
  some_states = omega arith;
  states_fit = omega (arith, good.cap_fits);
  some_ops = omega (arith, length-account cap amounts, good.some);
  ops_fit = omega (arith, length-account cap amounts, fits);
  no_twin = account-once cap amounts good;
  steps_inside = λ s k t s_below k_below h. omega (arith, step-inside (ltb k (4 * length amounts)) (eqb (k - 4 * length amounts) s) cap (amount_at amounts (k / 4)) (k % 4) s t (omega arith) h);
}
