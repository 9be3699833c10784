-- Amounts that are put in and taken out: parameters, operations and steps.
use Rattle.std.specs.Prelude.{ℕ, zero, suc, ◌+◌, ◌-◌, ◌<◌, ◌≤◌, Bool, ◌&&◌, List, [], ◌∷◌, ◌++◌, length, nat_lt, nat_le, Option, codes, slice_index_or}
use Rattle.std.specs.Fmt.{decimal}
use Rattle.type_table.specs.declared.op.Op.{Op}
use Rattle.table_maker.specs.Made.{op_named, where_legal}

-- the amount at a place
abbrev pub amount_at : List ℕ → ℕ → ℕ
amount_at amounts i = slice_index_or amounts i 0

-- a cap from 1 to 1,023, and amounts from 1 to the cap, strictly ascending, at least one
pub record AreAmounts (cap : ℕ) (amounts : List ℕ) : Type 0 where
  pub some_cap : 1 ≤ cap
  pub cap_fits : cap ≤ 1023
  pub some : 0 < length amounts
  pub each : (i : ℕ) → i < length amounts → (1 ≤ amount_at amounts i) × (amount_at amounts i ≤ cap)
  pub ascending : (i : ℕ) → i + 1 < length amounts → amount_at amounts i < amount_at amounts (i + 1)

-- an amount is 1 to the cap, as a test
abbrev pub is_amount_up_to : ℕ → ℕ → Bool
is_amount_up_to cap a = nat_le 1 a && nat_le a cap

-- the four operations of an amount, by the words of its two calls: it is put in, or there is no room; it is taken out, or there is too little
abbrev pub amount_ops : List ℕ → List ℕ → ℕ → List Op
amount_ops put taken a =
    op_named (put ++ decimal a) (codes "ok") ∷ op_named (put ++ decimal a) (codes "full")
    ∷ op_named (taken ++ decimal a) (codes "ok") ∷ op_named (taken ++ decimal a) (codes "short") ∷ []

-- their steps, by their place
abbrev pub amount_step : ℕ → ℕ → ℕ → ℕ → Option ℕ
amount_step cap a zero s = where_legal (nat_le (s + a) cap) (s + a)
amount_step cap a (suc zero) s = where_legal (nat_lt cap (s + a)) s
amount_step cap a (suc (suc zero)) s = where_legal (nat_le a s) (s - a)
amount_step cap a (suc (suc (suc _))) s = where_legal (nat_lt s a) s
