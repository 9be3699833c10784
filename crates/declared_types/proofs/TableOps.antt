-- The operations of a table by their numbers.
use Rattle.std.proofs.Common.{◌≡◌, ℕ, zero, suc, ◌<◌, ◌≤◌, true, false, leb, ltb, ◌&&◌, ◌/◌, List, [], ◌∷◌, map, length, get_or, slice_get, Some, None, refl, sym, ap, ◌∙◌, inl, inr, arith}
use Rattle.std.proofs.lemmas.Bool.{false≢true, cases_lt, lt-ltb, leb-true, and_parts}
use Rattle.std.specs.List.{list_all}
use Rattle.type_table.specs.Name.{is_name, is_name_byte}
use Rattle.type_table.specs.Operation.{operation_at, place_of, amount_of, amount_by, operation-again}
use Rattle.type_table.specs.Table.{Table, has_op}
use Rattle.type_table.specs.declared.op.Op.{Op}

-- the name at a place, where there is one
name_found : (ops : List Op) (k : ℕ) (op : Op) → slice_get ops k ≡ Some op → get_or (map (λ (o : Op). o.call) ops) k [] ≡ op.call
name_found [] k op is = absurd cc
name_found (o ∷ ops) zero op is = let same : o ≡ op = cc in ap (λ (p : Op). p.call) same
name_found (o ∷ ops) (suc k) op is = name_found ops k op is

-- and where there is none
name_past : (ops : List Op) (k : ℕ) → length ops ≤ k → get_or (map (λ (o : Op). o.call) ops) k [] ≡ []
name_past [] k past = refl
name_past (o ∷ ops) zero past = absurd (omega (arith, past))
name_past (o ∷ ops) (suc k) past = name_past ops k (omega (arith, past))

pub op_past : (T : Table) (k : ℕ) → length T.ops ≤ k → has_op T k ≡ false
op_past T k past = ap (λ (name : List ℕ). ltb 0 (length name)) (name_past T.ops k past)

pub op_found : (T : Table) (k : ℕ) (op : Op) → slice_get T.ops k ≡ Some op → 0 < length op.call → has_op T k ≡ true
op_found T k op is some = ap (λ (name : List ℕ). ltb 0 (length name)) (name_found T.ops k op is) ∙ lt-ltb 0 (length op.call) some

-- an operation that a type has is one of its table
pub op_below : (T : Table) (k : ℕ) → has_op T k ≡ true → k < length T.ops
op_below T k there = elim (cases_lt k (length T.ops)) [
  | inl below ↦ below
  | inr past ↦ absurd (false≢true (sym (op_past T k past) ∙ there))
]

-- a number below 256 has no amount, and one with an amount is above
pub no_amount : (k : ℕ) → amount_of k ≡ None → place_of k ≡ k
no_amount k none = ap (operation_at (place_of k)) (sym none) ∙ operation-again k

pub with_amount : (k n : ℕ) → amount_of k ≡ Some n → 256 ≤ k
with_amount k n is = elim (cases_lt k 256) [
  | inl small ↦ absurd (none_some (ap amount_by (let zero : k / 256 ≡ 0 = omega (arith, small) in zero)) is)
  | inr large ↦ large
]
  where
    none_some : amount_of k ≡ None → amount_of k ≡ Some n → ⊥
    none_some none some = cc

-- a name has a byte
pub name_length : (name : List ℕ) → is_name name ≡ true → 0 < length name
unfolding is_name
name_length name h =
    let sizes = and_parts (leb 1 (length name) && leb (length name) 32) (list_all is_name_byte name) h in
    leb-true 1 (length name) (and_parts (leb 1 (length name)) (leb (length name) 32) sizes.0).0
