-- What is known of the lines of an accepted text.
use Rattle.std.proofs.Common.{◌≡◌, ℕ, zero, suc, ◌+◌, ◌<◌, ◌≤◌, Bool, true, false, eqb, ltb, leb, List, [], ◌∷◌, ◌++◌, length, get_or, take, Some, refl, sym, ap, ◌∙◌, inl, inr, arith}
use Rattle.std.specs.List.{slice_get, list_all}
use Rattle.std.proofs.lemmas.Bool.{ltb-true, lt-ltb, leb-true, le-leb, eq-eqb, eqb-false, and_parts, and_from, or_left, or_right, or_cases, cases_order}
use Rattle.std.proofs.lemmas.List.{take_more}
use Rattle.std.proofs.lemmas.List.Elements.{filter_map-append}
use Rattle.line_text.specs.LineTests.{pair_below, is_single, is_needed}
use Rattle.line_text.specs.Accepted.{AreInOrder}
use Rattle.number_types.specs.declared.number_call.NumberCall.{NumberCall}
use Rattle.number_types.specs.declared.number_call.NumberCall.TheVariants.{Take, TakeAny, Give, GiveAny, AtLeast, Value}
use Rattle.number_text.specs.declared.number_line.Counted.TheVariants as of
use Rattle.number_text.specs.declared.number_line.NumberLine.{NumberLine}
use Rattle.number_text.specs.declared.number_line.NumberLine.TheVariants.{Called, Max, Initial, Call, TooLarge, End}
use Rattle.number_text.specs.NumberLines.{rank_of, sections, max_of, call_in, calls_of, is_in_range, number_rules, AreNumberLines}
use Rattle.number_types.specs.Calls.{call_rank, amount_of, is_amount, is_within, is_below, are_ascending}

-- ---- lines by their ranks

pub call_rank_low : (c : NumberCall) → (3 ≤ call_rank c) × (call_rank c ≤ 8)
call_rank_low (Take k) = (omega arith, omega arith)
call_rank_low TakeAny = (omega arith, omega arith)
call_rank_low (Give k) = (omega arith, omega arith)
call_rank_low GiveAny = (omega arith, omega arith)
call_rank_low (AtLeast k) = (omega arith, omega arith)
call_rank_low Value = (omega arith, omega arith)

-- a line that passed isn't one with a number that is too large; so its rank says what it is
name_line : (x : NumberLine) → rank_of x ≡ 0 → (name : List ℕ) × (x ≡ Called name)
name_line (Called name) e = (name, refl)
name_line (Max m) e = absurd (omega (arith, e))
name_line (Initial s) e = absurd (omega (arith, e))
name_line (Call c) e = absurd (omega (arith, e, (call_rank_low c).0))
name_line (TooLarge of.Max) e = absurd (omega (arith, e))
name_line (TooLarge of.Initial) e = absurd (omega (arith, e))
name_line (TooLarge of.Take) e = absurd (omega (arith, e))
name_line (TooLarge of.Give) e = absurd (omega (arith, e))
name_line (TooLarge of.AtLeast) e = absurd (omega (arith, e))
name_line End e = absurd (omega (arith, e))

max_line : (before : List NumberLine) (x : NumberLine) → is_in_range before x ≡ true → rank_of x ≡ 1 → (m : ℕ) × (x ≡ Max m)
max_line before (Called name) h e = absurd (omega (arith, e))
max_line before (Max m) h e = (m, refl)
max_line before (Initial s) h e = absurd (omega (arith, e))
max_line before (Call c) h e = absurd (omega (arith, e, (call_rank_low c).0))
max_line before (TooLarge counted) h e = absurd cc
max_line before End h e = absurd (omega (arith, e))

initial_line : (before : List NumberLine) (x : NumberLine) → is_in_range before x ≡ true → rank_of x ≡ 2 → (s : ℕ) × (x ≡ Initial s)
initial_line before (Called name) h e = absurd (omega (arith, e))
initial_line before (Max m) h e = absurd (omega (arith, e))
initial_line before (Initial s) h e = (s, refl)
initial_line before (Call c) h e = absurd (omega (arith, e, (call_rank_low c).0))
initial_line before (TooLarge counted) h e = absurd cc
initial_line before End h e = absurd (omega (arith, e))

end_line : (before : List NumberLine) (x : NumberLine) → is_in_range before x ≡ true → rank_of x ≡ 9 → x ≡ End
end_line before (Called name) h e = absurd (omega (arith, e))
end_line before (Max m) h e = absurd (omega (arith, e))
end_line before (Initial s) h e = absurd (omega (arith, e))
end_line before (Call c) h e = absurd (omega (arith, e, (call_rank_low c).1))
end_line before (TooLarge counted) h e = absurd cc
end_line before End h e = refl

-- the first three sections are one line each
front_singles : (k : ℕ) → k ≤ 2 → (is_single (slice_get sections k) ≡ true) × (is_needed (slice_get sections k) ≡ true)
front_singles zero h = (refl, refl)
front_singles (suc zero) h = (refl, refl)
front_singles (suc (suc zero)) h = (refl, refl)
front_singles (suc (suc (suc k))) h = absurd (omega (arith, h))

-- the line at the place of its section
at_front : (lines : List NumberLine) → AreInOrder number_rules lines → (rank : ℕ) → rank ≤ 2 → (x : NumberLine) × (slice_get lines rank ≡ Some x) × (rank_of x ≡ rank)
at_front lines order rank h = order.singles_in_front rank (omega (arith, h)) (λ k k_in. front_singles k (omega (arith, h, k_in)))

-- what a line knows of the greatest value is at most what the text says
max_of-take : (lines : List NumberLine) (i : ℕ) → max_of (take i lines) ≤ max_of lines
max_of-take [] zero = omega arith
max_of-take [] (suc i) = omega arith
max_of-take (x ∷ []) zero = omega arith
max_of-take (x ∷ []) (suc zero) = omega arith
max_of-take (x ∷ []) (suc (suc i)) = omega arith
max_of-take (x ∷ y ∷ lines) zero = omega arith
max_of-take (x ∷ y ∷ lines) (suc zero) = omega arith
max_of-take (x ∷ y ∷ lines) (suc (suc i)) = omega arith

-- ---- calls among lines

-- a line of a call at a place
abbrev CallAt : List NumberLine → ℕ → NumberCall → Type 0
CallAt lines i c = slice_get lines i ≡ Some (Call c)

-- what holds of the call of each line holds of each call
each_call : (p : NumberCall → Bool) (lines : List NumberLine) → ((i : ℕ) (c : NumberCall) → CallAt lines i c → p c ≡ true) → list_all p (calls_of lines) ≡ true
each_call p [] h = refl
each_call p (Called name ∷ lines) h = each_call p lines (λ i c at. h (suc i) c at)
each_call p (Max m ∷ lines) h = each_call p lines (λ i c at. h (suc i) c at)
each_call p (Initial s ∷ lines) h = each_call p lines (λ i c at. h (suc i) c at)
each_call p (Call d ∷ lines) h = and_from (p d) (list_all p (calls_of lines)) (h 0 d refl) (each_call p lines (λ i c at. h (suc i) c at))
each_call p (TooLarge counted ∷ lines) h = each_call p lines (λ i c at. h (suc i) c at)
each_call p (End ∷ lines) h = each_call p lines (λ i c at. h (suc i) c at)

-- each line of a call is below all those after it
abbrev AreBelow : List NumberLine → Type 0
AreBelow lines = (i j : ℕ) (c d : NumberCall) → i < j → CallAt lines i c → CallAt lines j d → is_below c d ≡ true

-- so it is of the lines after the first
below_tail : (x : NumberLine) (lines : List NumberLine) → AreBelow (x ∷ lines) → AreBelow lines
below_tail x lines h = λ i j c d less at_i at_j. h (suc i) (suc j) c d (omega (arith, less)) at_i at_j

-- then the calls ascend
calls_ascend : (lines : List NumberLine) → AreBelow lines → are_ascending (calls_of lines) ≡ true
calls_ascend [] h = refl
calls_ascend (Called name ∷ lines) h = calls_ascend lines (below_tail (Called name) lines h)
calls_ascend (Max m ∷ lines) h = calls_ascend lines (below_tail (Max m) lines h)
calls_ascend (Initial s ∷ lines) h = calls_ascend lines (below_tail (Initial s) lines h)
calls_ascend (Call c ∷ lines) h =
    and_from (list_all (is_below c) (calls_of lines)) (are_ascending (calls_of lines))
    (each_call (is_below c) lines (λ j d at. h 0 (suc j) c d (omega arith) refl at))
    (calls_ascend lines (below_tail (Call c) lines h))
calls_ascend (TooLarge counted ∷ lines) h = calls_ascend lines (below_tail (TooLarge counted) lines h)
calls_ascend (End ∷ lines) h = calls_ascend lines (below_tail End lines h)

-- lines of which each call comes after fewer than a limit have at most as many calls
few_calls : (limit n : ℕ) (lines : List NumberLine) → n ≤ limit → ((i : ℕ) (c : NumberCall) → CallAt lines i c → n + length (calls_of (take i lines)) < limit) → n + length (calls_of lines) ≤ limit
few_calls limit n [] fits h = omega (arith, fits)
few_calls limit n (Called name ∷ lines) fits h = few_calls limit n lines fits (λ i c at. h (suc i) c at)
few_calls limit n (Max m ∷ lines) fits h = few_calls limit n lines fits (λ i c at. h (suc i) c at)
few_calls limit n (Initial s ∷ lines) fits h = few_calls limit n lines fits (λ i c at. h (suc i) c at)
few_calls limit n (Call d ∷ lines) fits h =
    let here : n + 0 < limit = h 0 d refl in
    let more : n + 1 + length (calls_of lines) ≤ limit = few_calls limit (n + 1) lines (omega (arith, here)) (λ i c at.
    let one : n + suc (length (calls_of (take i lines))) < limit = h (suc i) c at in omega (arith, one)) in
    omega (arith, more)
few_calls limit n (TooLarge counted ∷ lines) fits h = few_calls limit n lines fits (λ i c at. h (suc i) c at)
few_calls limit n (End ∷ lines) fits h = few_calls limit n lines fits (λ i c at. h (suc i) c at)

-- there are no more before a line than in all
calls_of-take : (lines : List NumberLine) (i : ℕ) → length (calls_of (take i lines)) ≤ length (calls_of lines)
calls_of-take lines zero = omega arith
calls_of-take [] (suc i) = omega arith
calls_of-take (Called name ∷ lines) (suc i) = calls_of-take lines i
calls_of-take (Max m ∷ lines) (suc i) = calls_of-take lines i
calls_of-take (Initial s ∷ lines) (suc i) = calls_of-take lines i
calls_of-take (Call c ∷ lines) (suc i) = let rest = calls_of-take lines i in omega (arith, rest)
calls_of-take (TooLarge counted ∷ lines) (suc i) = calls_of-take lines i
calls_of-take (End ∷ lines) (suc i) = calls_of-take lines i

-- with one more line its call comes after the others
pub calls_more : (lines : List NumberLine) (i : ℕ) (x : NumberLine) → i < length lines → x ≡ get_or lines i x → calls_of (take (i + 1) lines) ≡ calls_of (take i lines) ++ calls_of (x ∷ [])
calls_more lines i x below e = ap calls_of (take_more lines i x below ∙ ap (λ y. take i lines ++ y ∷ []) (sym e)) ∙ filter_map-append call_in (take i lines) (x ∷ [])

-- an amount that is in range below one greatest value is so below a greater one
amount_more : (low high k : ℕ) → low ≤ high → is_amount low k ≡ true → is_amount high k ≡ true
amount_more low high k less h =
    let tests = and_parts (leb 1 k) (leb k low) h in
    and_from (leb 1 k) (leb k high) tests.0 (le-leb k high (omega (arith, less, leb-true k low tests.1)))

-- and so is a call
within_more : (low high : ℕ) (c : NumberCall) → low ≤ high → is_within low c ≡ true → is_within high c ≡ true
within_more low high (Take k) less h = amount_more low high k less h
within_more low high TakeAny less h = h
within_more low high (Give k) less h = amount_more low high k less h
within_more low high GiveAny less h = h
within_more low high (AtLeast k) less h = amount_more low high k less h
within_more low high Value less h = h

-- ---- all together

module _ (lines : List NumberLine) (order : AreInOrder number_rules lines) where
  -- both tests of the range of a call
  call_range : (i : ℕ) (c : NumberCall) → CallAt lines i c → (is_within (max_of (take i lines)) c ≡ true) × (ltb (length (calls_of (take i lines))) 32 ≡ true)
  call_range i c at = and_parts (is_within (max_of (take i lines)) c) (ltb (length (calls_of (take i lines))) 32) (order.passed i (Call c) at).in_range

  -- of two calls of one section the keys rise, and ranks never fall
  all_below : AreBelow lines
  all_below i j c d less at_i at_j =
      let rank : call_rank c ≤ call_rank d = order.rising_ranks i j (Call c) (Call d) (omega (arith, less)) (record { first = at_i; second = at_j }) in
      elim (cases_order (call_rank c) (call_rank d)) [
        | inl same ↦
            let keys : pair_below (amount_of c, 0) (amount_of d, 0) ≡ true = order.rising_keys (call_rank c) i j (Call c) (Call d) (amount_of c, 0) (amount_of d, 0) (λ x ranked. refl) less (record { first = at_i; second = at_j }) refl (sym same) refl refl in
            let rise : ltb (amount_of c) (amount_of d) ≡ true = elim (or_cases _ _ keys) [
              | inl first ↦ first
              | inr equal ↦ let none : 0 < 0 = ltb-true 0 0 (and_parts (eqb (amount_of c) (amount_of d)) (ltb 0 0) equal).1 in absurd (omega (arith, none))
            ] in
            or_right (ltb (call_rank c) (call_rank d)) _ (and_from (eqb (call_rank c) (call_rank d)) (ltb (amount_of c) (amount_of d)) (eq-eqb (call_rank c) (call_rank d) same) rise)
        | inr apart ↦ elim (apart) [
          | inl under ↦ or_left (ltb (call_rank c) (call_rank d)) _ (lt-ltb (call_rank c) (call_rank d) under)
          | inr over ↦ absurd (omega (arith, rank, over))
        ]
      ]

  -- a call comes before `end`
  has_call : 0 < length (calls_of lines)
  has_call =
      let in_list = order.needed.end in
      let end : in_list.item ≡ End = end_line (take in_list.place lines) in_list.item (order.passed in_list.place in_list.item in_list.at).in_range in_list.ranked in
      let at : slice_get lines in_list.place ≡ Some End = in_list.at ∙ ap Some end in
      let none : eqb (length (calls_of (take in_list.place lines))) 0 ≡ false = (order.passed in_list.place End at).misses_none in
      omega (arith, eqb-false (length (calls_of (take in_list.place lines))) 0 none, calls_of-take lines in_list.place)

  pub are_number_lines : AreNumberLines lines
  are_number_lines =
      let first = at_front lines order 0 (omega arith) in
      let name = name_line first.0 first.2 in
      let second = at_front lines order 1 (omega arith) in
      let max = max_line (take 1 lines) second.0 (order.passed 1 second.0 second.1).in_range second.2 in
      let max_at : slice_get lines 1 ≡ Some (Max max.0) = second.1 ∙ ap Some max.1 in
      let max_tests : (leb 1 max.0 ≡ true) × (leb max.0 4294967295 ≡ true) = and_parts _ _ ((order.passed 1 (Max max.0) max_at).in_range) in
      let third = at_front lines order 2 (omega arith) in
      let initial = initial_line (take 2 lines) third.0 (order.passed 2 third.0 third.1).in_range third.2 in
      let initial_at : slice_get lines 2 ≡ Some (Initial initial.0) = third.1 ∙ ap Some initial.1 in
      let initial_in = leb-true initial.0 (max_of (take 2 lines)) ((order.passed 2 (Initial initial.0) initial_at).in_range) in
      record {
        name = (name.0, first.1 ∙ ap Some name.1);
        max = (max.0, max_at, leb-true 1 max.0 max_tests.0, leb-true max.0 4294967295 max_tests.1);
        initial = (initial.0, initial_at, omega (arith, initial_in, max_of-take lines 2));
        amounts = each_call (is_within (max_of lines)) lines (λ i c at. within_more (max_of (take i lines)) (max_of lines) c (max_of-take lines i) (call_range i c at).0);
        ascending = calls_ascend lines all_below;
        some_call = has_call;
        calls_fit = omega (arith, few_calls 32 0 lines (omega arith) (λ i c at. omega (arith, ltb-true (length (calls_of (take i lines))) 32 (call_range i c at).1)));
      }
