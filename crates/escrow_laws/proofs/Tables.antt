-- Numbers up to any greatest one have a table.
use Rattle.std.proofs.Common.{◌≡◌, ℕ, ◌+◌, ◌*◌, ◌/◌, ◌%◌, ◌<◌, ◌≤◌, cond, List, map, length, Option, Some, None, refl, sym, ap, ◌∙◌, inl, inr, arith}
use Rattle.std.specs.Prelude.{nat_lt, slice_get, option_and_then}
use Rattle.std.specs.List.{range_with_len}
use Rattle.std.proofs.lemmas.Bool.{cases_lt, lt-ltb, le-ltb}
use Rattle.std.proofs.Math.Nat.{mul_comm}
use Rattle.std.proofs.lemmas.Nat.{mul-le, mul-add-lt, div-mul-add, mod-mul-add}
use Rattle.std.proofs.lemmas.Option.{slice_get-get_or, slice_get_past}
use Rattle.std.proofs.lemmas.List.FromFn.{length-map-range_with_len, get_or-map-range_with_len}
use Rattle.type_table.specs.Table.{Table, next}
use Rattle.escrow_laws.specs.declared.bounded.Bounded.{Bounded}
use Rattle.escrow_laws.specs.Bounds.{moved_by, AreWithin, steps_of}
use Rattle.escrow_laws.specs.Laws.{NumbersHaveTables}
use Rattle.escrow_laws.proofs.Numbers.{none-above}

-- the next state, by the entry of a table
next-by : (T : Table) (s k : ℕ) → next T s k ≡ cond (nat_lt k (length T.ops)) (option_and_then (λ (entry : Option ℕ). entry) (slice_get T.steps (s * length T.ops + k))) None
unfolding next
next-by T s k = refl

steps-by : (top : ℕ) (ops : List Bounded) → steps_of top ops ≡ map (λ i. moved_by (slice_get ops (i % length ops)) (i / length ops)) (range_with_len 0 (length ops * (top + 1)))
unfolding steps_of
steps-by top ops = refl

-- the element at a place of what a function makes of each place
read : (f : ℕ → Option ℕ) (m i : ℕ) → i < m → slice_get (map f (range_with_len 0 m)) i ≡ Some (f i)
read f m i inside =
    slice_get-get_or (map f (range_with_len 0 m)) i None (rw (length-map-range_with_len f 0 m) inside)
    ∙ ap Some (get_or-map-range_with_len f 0 m i i None inside (omega arith))

past : (f : ℕ → Option ℕ) (m i : ℕ) → m ≤ i → slice_get (map f (range_with_len 0 m)) i ≡ None
past f m i outside = slice_get_past (map f (range_with_len 0 m)) i (rw (length-map-range_with_len f 0 m) outside)

-- the entry of a number and an operation
entry-is : (top : ℕ) (ops : List Bounded) (s k : ℕ) → AreWithin top ops → k < length ops →
    option_and_then (λ (entry : Option ℕ). entry) (slice_get (steps_of top ops) (s * length ops + k)) ≡ moved_by (slice_get ops k) s
entry-is top ops s k fits inside =
    let n : ℕ = length ops in
    let f : ℕ → Option ℕ = λ i. moved_by (slice_get ops (i % n)) (i / n) in
    elim (cases_lt s (top + 1)) [
      | inl low ↦
          let found = read f (n * (top + 1)) (s * n + k) (mul-add-lt s n k (top + 1) low inside) in
          rw (steps-by top ops, found, div-mul-add s n k inside, mod-mul-add s n k inside) refl
      | inr over ↦
          let far : n * (top + 1) ≤ s * n + k = mul-row n (top + 1) s k over in
          rw (steps-by top ops, past f (n * (top + 1)) (s * n + k) far) (sym (none-above (slice_get ops k) top s (fits k) (omega (arith, over))))
    ]
  where
    mul-row : (n h s k : ℕ) → h ≤ s → n * h ≤ s * n + k
    mul-row n h s k less = let more = mul-le h n s n less (omega arith) in omega (arith, more, mul_comm n h)

pub numbers_tables : NumbersHaveTables
numbers_tables = λ T top ops steps count fits. record {
  steps = λ s k. elim (cases_lt k (length ops)) [
    | inl inside ↦ next-by T s k ∙ rw (steps, count, lt-ltb k (length ops) inside) (entry-is top ops s k fits inside)
    | inr outside ↦ next-by T s k ∙ rw (count, le-ltb k (length ops) outside, slice_get_past ops k outside) refl
  ];
  within = fits;
}
