-- Counters: a number from 0 to a cap, and steps up and down by given amounts, without a reply that says the number.
use Rattle.std.specs.Prelude.{ℕ, zero, suc, ◌+◌, ◌*◌, ◌-◌, ◌/◌, ◌%◌, ◌≤◌, List, [], ◌∷◌, ◌++◌, length, nat_le, Option, codes}
use Rattle.std.specs.Fmt.{decimal}
use Rattle.std.specs.List.{flat_map}
use Rattle.type_table.specs.declared.op.Op.{Op}
use Rattle.table_maker.specs.Made.{Family, op_named, where_legal}
use Rattle.table_families.specs.Amounts.{amount_at}

-- the two operations of an amount
abbrev pub change_ops : ℕ → List Op
change_ops a = op_named (codes "inc:" ++ decimal a) (codes "ok") ∷ op_named (codes "dec:" ++ decimal a) (codes "ok") ∷ []

-- their steps, by their place
abbrev pub change_step : ℕ → ℕ → ℕ → ℕ → Option ℕ
change_step cap a zero s = where_legal (nat_le (s + a) cap) (s + a)
change_step cap a (suc _) s = where_legal (nat_le a s) (s - a)

-- the state is the number; operation 2 i + j is the j-th of amount i
abbrev pub counter : ℕ → List ℕ → Family
counter cap amounts = record {
  name = codes "counter";
  states = cap + 1;
  ops = flat_map change_ops amounts;
  step = λ s k. change_step cap (amount_at amounts (k / 2)) (k % 2) s;
}

-- at most 64 operations
abbrev pub CounterFits : List ℕ → Type 0
CounterFits amounts = 2 * length amounts ≤ 64
