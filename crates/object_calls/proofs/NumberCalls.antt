-- The calls of a number.
use Rattle.std.proofs.Common.{◌≡◌, ℕ, ◌+◌, ◌-◌, ◌*◌, ◌/◌, ◌%◌, ◌^◌, ◌<◌, ◌==◌, length, Some, refl, sym, ap, subst, ◌∙◌, inl, inr, arith}
use Rattle.std.specs.Int.{bit_at}
use Rattle.std.proofs.lemmas.Bool.{cases_lt, eq-eqb, ne_eqb}
use Rattle.std.proofs.lemmas.List.FromFn.{length-map-range_with_len}
use Rattle.std.proofs.lemmas.Nat.{pow-add, shl_whole}
use Rattle.std.proofs.lemmas.Nat.Bits.{bit_at_mask_below, bit_at_mask_inside, bit_at_mask_above}
use Rattle.type_table.specs.Limits.{most_ops}
use Rattle.type_table.specs.Operation.{place_of}
use Rattle.type_table.specs.Table.{call_of, first_op}
use Rattle.number_types.specs.Number.{Number, IsNumber}
use Rattle.number_types.specs.Operations.{op_at, op_count, names_or_none, number_table}
use Rattle.number_types.proofs.FirstNamed.{first_named}
use Rattle.number_types.proofs.LinePlaces.{place_from}
use Rattle.object_calls.specs.Calls.{HasLine, IsCall}
use Rattle.object_calls.specs.declared.call.Call.{Call}

-- ---- numbers

-- a number has more operations than a table
pub many_ops : (v : Number) → most_ops < length (number_table v).ops
many_ops v = omega (arith, length-map-range_with_len (λ q. names_or_none (op_at v q)) 0 (op_count v))

-- the first operation of a call is at one of its lines
pub first_place : (v : Number) (c : ℕ) → IsNumber v → first_op (number_table v) (call_of (number_table v) c) ≡ Some c → place_of c < 64
first_place v c known first =
    let there = (first_named (number_table v) (call_of (number_table v) c) c first).1 in
    let line = place_from v (place_of c) known (c, refl, there) in
    omega (arith, line.0, known.calls_fit)

-- ---- the places of a line

-- two bits, at a multiple of two
pub line_word : (place : ℕ) → place < 64 → HasLine place (3 * 2 ^ (place / 2 * 2) % 2 ^ 64)
line_word place low = λ k low_k. ap (λ word. bit_at word k == 1) word ∙ bits k
  where
    lo : ℕ
    lo = place / 2 * 2

    word : 3 * 2 ^ (place / 2 * 2) % 2 ^ 64 ≡ 2 ^ (2 + lo) - 2 ^ lo
    word = shl_whole 3 2 lo 64 (omega arith) (omega (arith, low)) ∙ omega (arith, pow-add 2 2 lo)

    bits : (k : ℕ) → (bit_at (2 ^ (2 + lo) - 2 ^ lo) k == 1) ≡ (k / 2 == place / 2)
    bits k =
        elim (cases_lt k lo) [
          | inl below ↦ ap (λ b. b == 1) (bit_at_mask_below lo (2 + lo) k below) ∙ sym (ne_eqb (k / 2) (place / 2) (λ same. omega (arith, below, same)))
          | inr from ↦
              elim (cases_lt k (2 + lo)) [
                | inl inside ↦ ap (λ b. b == 1) (bit_at_mask_inside lo (2 + lo) k from inside) ∙ sym (eq-eqb (k / 2) (place / 2) (omega (arith, from, inside)))
                | inr above ↦ ap (λ b. b == 1) (bit_at_mask_above lo (2 + lo) k above) ∙ sym (ne_eqb (k / 2) (place / 2) (λ same. omega (arith, above, same)))
              ]
        ]

-- so the call of a line is one of the number, by its first operation
pub line_is_call : (v : Number) (call : Call) (c : ℕ) → call.first ≡ c → first_op (number_table v) (call_of (number_table v) c) ≡ Some c → HasLine (place_of c) call.operations → IsCall (number_table v) call
line_is_call v call c is first line = record {
  least = subst (λ k. first_op (number_table v) (call_of (number_table v) k) ≡ Some k) (sym is) first;
  operations = λ few. absurd (omega (arith, few, many_ops v));
  line = λ many. subst (λ k. HasLine (place_of k) call.operations) (sym is) line;
}
