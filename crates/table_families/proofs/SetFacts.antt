-- Sets have tables.
use Rattle.std.proofs.Common.{◌≡◌, ℕ, zero, suc, ◌*◌, ◌-◌, ◌/◌, ◌%◌, ◌^◌, ◌<◌, ◌≤◌, ◌↔◌, Bool, true, false, leb, eqb, cond, List, [], length, Some, inl, inr, refl, sym, arith}
use Rattle.std.specs.Bool.{IsTrue}
use Rattle.std.specs.Int.{bit_at}
use Rattle.std.specs.List.{flat_map}
use Rattle.std.specs.Str.{bytes_eq}
use Rattle.std.proofs.lemmas.Bool.{le-leb, leb-true, cases_lt}
use Rattle.std.specs.Int.Bits.{bit_or}
use Rattle.std.proofs.lemmas.Nat.{or_lt, one_shl, pow_below, pow_pos}
use Rattle.std.proofs.Math.Pow.{pow_mono}
use Rattle.type_table.specs.Op.{has_twin}
use Rattle.table_families.specs.Elements.{AreElements, element_at}
use Rattle.table_maker.specs.Made.{HasTable}
use Rattle.table_families.specs.Set.{set, element_ops, element_step, with_element, without_element, SetFits}
use Rattle.table_families.proofs.AmountFacts.{legal-Some}
use Rattle.table_families.proofs.Bits.{set-bit}
use Rattle.table_families.proofs.Twins.{shares, has_twin-flat_map, length-pieces, same_bytes, other_bytes}

-- a set has four operations for each element
pub length-elements : (elements : List (List ℕ)) → length (flat_map element_ops elements) ≡ 4 * length elements
length-elements elements = length-pieces element_ops 4 elements (λ e. refl)

-- a set of at most ten elements fits, and no other
pub fits-iff : (elements : List (List ℕ)) → IsTrue (leb (length elements) 10) ↔ SetFits elements
fits-iff elements = (
  λ h. let few : length elements ≤ 10 = leb-true (length elements) 10 h in record { ops = omega arith; states = pow_mono few },
  λ fits. le-leb (length elements) 10 (elim (cases_lt 10 (length elements)) [ inl many ↦ absurd (omega (arith, fits.states, pow_below 10 (length elements) many)) | inr few ↦ few ]),
)

-- the operations of an element differ
element-once : (e : List ℕ) → has_twin (element_ops e) ≡ false
element-once e = rw (same_bytes e) refl

-- operations of different elements differ
elements-differ : (a b : List ℕ) → bytes_eq b a ≡ false → shares (element_ops a) (element_ops b) ≡ false
elements-differ a b h = rw h refl

-- a state of n elements is one still with element i in it
with-inside : (n i s : ℕ) → n ≤ 16 → i < n → s < 2 ^ n → with_element i s < 2 ^ n
with-inside n i s few h below =
    let one : 1 * 2 ^ i % 65536 ≡ 2 ^ i = one_shl i 16 (omega arith) in
    let added : bit_or s (2 ^ i) < 2 ^ n = or_lt n s (2 ^ i) below (pow_below i n h) in
    rw (← set-bit i s (omega arith), one) added

-- and with element i out of it
without-below : (i s : ℕ) → without_element i s ≤ s
without-below i s = either (eqb (bit_at s i) 1)
  where
    either : (b : Bool) → cond b (s - 2 ^ i) s ≤ s
    either true = omega arith
    either false = omega arith

-- a step leads to a state
element-inside : (n i j s t : ℕ) → n ≤ 16 → i < n → s < 2 ^ n → element_step i j s ≡ Some t → t < 2 ^ n
element-inside n i zero s t few h below e = let same : with_element i s ≡ t = cc in rw (← same) (with-inside n i s few h below)
element-inside n i (suc zero) s t few h below e = let same : without_element i s ≡ t = cc in omega (arith, same, without-below i s)
element-inside n i (suc (suc zero)) s t few h below e = omega (arith, (legal-Some (eqb (bit_at s i) 1) s t e).1)
element-inside n i (suc (suc (suc j))) s t few h below e = omega (arith, (legal-Some (eqb (bit_at s i) 0) s t e).1)

-- a set that fits has a table
pub set-table : (elements : List (List ℕ)) → AreElements 25 elements → SetFits elements → HasTable (set elements)
set-table elements good fits = record {
  some_states = pow_pos (length elements);
  states_fit = fits.states;
  some_ops = omega (arith, length-elements elements, good.some);
  ops_fit = omega (arith, length-elements elements, fits.ops);
  no_twin = has_twin-flat_map [] element_ops elements element-once
      (λ i j before below. elements-differ (element_at elements i) (element_at elements j) (other_bytes (element_at elements j) (element_at elements i) (λ same. good.distinct i j before below (sym same))));
  steps_inside = λ s k t s_below k_below h. element-inside (length elements) (k / 4) (k % 4) s t (omega (arith, fits.ops)) (omega (arith, k_below, length-elements elements)) s_below h;
}
