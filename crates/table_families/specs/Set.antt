-- Sets: each element is in or out, and may be put in, taken out and asked for.
use Rattle.std.specs.Prelude.{ℕ, zero, suc, ◌+◌, ◌*◌, ◌-◌, ◌/◌, ◌%◌, ◌^◌, ◌≤◌, List, [], ◌∷◌, ◌++◌, length, ◌==◌, if◌then◌else◌, Option, Some, codes}
use Rattle.std.specs.Int.{bit_at}
use Rattle.std.specs.List.{flat_map}
use Rattle.type_table.specs.declared.op.Op.{Op}
use Rattle.table_maker.specs.Made.{Family, op_named, where_legal}

-- the four operations of an element
abbrev pub element_ops : List ℕ → List Op
element_ops e =
    op_named (codes "insert:" ++ e) (codes "ok") ∷ op_named (codes "delete:" ++ e) (codes "ok")
    ∷ op_named (codes "member:" ++ e) (codes "true") ∷ op_named (codes "member:" ++ e) (codes "false") ∷ []

-- the state with element i in it, and out of it
abbrev pub with_element : ℕ → ℕ → ℕ
with_element i s = if bit_at s i == 1 then s else s + 2 ^ i

abbrev pub without_element : ℕ → ℕ → ℕ
without_element i s = if bit_at s i == 1 then s - 2 ^ i else s

-- the steps of the four operations of element i, by their place
abbrev pub element_step : ℕ → ℕ → ℕ → Option ℕ
element_step i zero s = Some (with_element i s)
element_step i (suc zero) s = Some (without_element i s)
element_step i (suc (suc zero)) s = where_legal (bit_at s i == 1) s
element_step i (suc (suc (suc _))) s = where_legal (bit_at s i == 0) s

-- the state is the set of the elements whose bit is one in it; operation 4 i + j is the j-th of element i
abbrev pub set : List (List ℕ) → Family
set elements = record {
  name = codes "set";
  states = 2 ^ length elements;
  ops = flat_map element_ops elements;
  step = λ s k. element_step (k / 4) (k % 4) s;
}

-- at most 64 operations and 1,024 states
pub record SetFits (elements : List (List ℕ)) : Type 0 where
  pub ops : 4 * length elements ≤ 64
  pub states : 2 ^ length elements ≤ 1024
