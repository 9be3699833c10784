-- Operations of one call, whose replies are numbers.
use Rattle.std.proofs.Common.{◌≡◌, ℕ, ◌^◌, ◌<◌, ◌≤◌, false, List, map, get_or, refl, arith}
use Rattle.std.specs.Fmt.{decimal}
use Rattle.std.specs.List.{range_with_len}
use Rattle.std.proofs.lemmas.Fmt.{decimal_injective}
use Rattle.std.proofs.lemmas.List.FromFn.{length-range_with_len, get_or-range_with_len}
use Rattle.type_table.specs.Op.{has_twin, is_same_op}
use Rattle.table_maker.specs.Made.{op_named}
use Rattle.table_families.proofs.Twins.{has_twin-map, same_bytes, other_bytes}

-- different replies differ
replies-differ : (call : List ℕ) (i j : ℕ) → i < j → j < 2 ^ 16 → is_same_op (op_named call (decimal j)) (op_named call (decimal i)) ≡ false
replies-differ call i j before below =
    rw (same_bytes call, other_bytes (decimal j) (decimal i) (λ (same : decimal j ≡ decimal i). absurd (omega (arith, before, decimal_injective j i (omega arith) (omega arith) same)))) refl

-- no operation comes twice
pub replies-once : (call : List ℕ) (count : ℕ) → count ≤ 2 ^ 16 → has_twin (map (λ n. op_named call (decimal n)) (range_with_len 0 count)) ≡ false
replies-once call count small =
    has_twin-map 0 (λ n. op_named call (decimal n)) (range_with_len 0 count) (λ i j before below.
    let inside : j < count = omega (arith, below, length-range_with_len 0 count) in
    let first : get_or (range_with_len 0 count) i 0 ≡ i = omega (arith, get_or-range_with_len 0 count i 0 (omega arith)) in
    let second : get_or (range_with_len 0 count) j 0 ≡ j = omega (arith, get_or-range_with_len 0 count j 0 (omega arith)) in
    rw (first, second) (replies-differ call i j before (omega arith)))
