-- Accounts: a balance from 0 to a cap, deposits and withdrawals of given amounts, and the balance as a reply.
use Rattle.std.specs.Prelude.{ℕ, ◌+◌, ◌*◌, ◌-◌, ◌/◌, ◌%◌, ◌≤◌, List, ◌++◌, length, map, nat_lt, ◌==◌, if◌then◌else◌, codes}
use Rattle.std.specs.Fmt.{decimal}
use Rattle.std.specs.List.{flat_map, range_with_len}
use Rattle.type_table.specs.declared.op.Op.{Op}
use Rattle.table_maker.specs.Made.{Family, op_named, where_legal}
use Rattle.table_families.specs.Amounts.{amount_at, amount_ops, amount_step}

-- the operation that reads a balance
abbrev pub balance_op : ℕ → Op
balance_op b = op_named (codes "balance") (decimal b)

-- the state is the balance; operation 4 i + j is the j-th of amount i, and after them there is one for each balance
abbrev pub account : ℕ → List ℕ → Family
account cap amounts = record {
  name = codes "account";
  states = cap + 1;
  ops = flat_map (amount_ops (codes "deposit:") (codes "withdraw:")) amounts ++ map balance_op (range_with_len 0 (cap + 1));
  step = λ s k. if nat_lt k (4 * length amounts) then amount_step cap (amount_at amounts (k / 4)) (k % 4) s else where_legal (k - 4 * length amounts == s) s;
}

-- at most 64 operations
abbrev pub AccountFits : ℕ → List ℕ → Type 0
AccountFits cap amounts = 4 * length amounts + (cap + 1) ≤ 64
