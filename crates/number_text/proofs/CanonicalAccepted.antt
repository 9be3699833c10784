-- The lines of a canonical text are accepted.
use Rattle.std.proofs.Common.{◌≡◌, ◌+◌, ◌<◌, ◌≤◌, Bool, true, false, ◌&&◌, eqb, leb, ltb, List, [], ◌∷◌, ◌++◌, length, map, Some, refl, sym, ap, subst, ◌∙◌, inl, inr, arith, append_assoc, append-nil}
use Rattle.std.specs.List.{AllByRecursion, list_all, slice_get}
use Rattle.std.proofs.lemmas.Bool.{lt-ltb, le-ltb, ltb-true, eqb-true, eq-eqb, ne_eqb, le-leb, and_parts, and_from, or_left, or_cases}
use Rattle.std.proofs.lemmas.List.{length-append, map-append}
use Rattle.line_text.specs.Rules.{was_read, last_item}
use Rattle.line_text.specs.LineTests.{is_late, ascends, pair_below, is_single, is_full, lacks}
use Rattle.line_text.specs.Accepted.{HasPassed, IsAccepted}
use Rattle.line_text.proofs.Items.{last_item_push}
use Rattle.number_types.specs.declared.number_call.NumberCall.{NumberCall}
use Rattle.number_types.specs.declared.number_call.NumberCall.TheVariants.{Take, TakeAny, Give, GiveAny, AtLeast, Value}
use Rattle.number_text.specs.declared.number_line.NumberLine.{NumberLine}
use Rattle.number_text.specs.declared.number_line.NumberLine.TheVariants.{Called, Max, Initial, Call, TooLarge, End}
use Rattle.number_text.specs.NumberLines.{rank_of, sections, amount_in, calls_of, number_rules}
use Rattle.number_types.specs.Calls.{call_rank, is_within, is_below, are_ascending}
use Rattle.number_types.specs.Number.{Number, IsNumber}
use Rattle.number_text.specs.Canonical.{canonical_lines}
use Rattle.number_text.proofs.Accepted.{call_rank_low}
use Rattle.number_text.proofs.Follows.{Follow, follow_append, no_twins, count, count-cons, accepted_with_end}

-- the first three lines of a number's text, and more
abbrev front : Number → List NumberLine → List NumberLine
front v more = Called v.name ∷ Max v.max ∷ Initial v.initial ∷ more

-- the lines before a call
abbrev before : Number → List NumberCall → List NumberLine
before v done = front v (map Call done)

-- the calls of such lines
pub calls_back : (cs : List NumberCall) → calls_of (map Call cs) ≡ cs
calls_back [] = refl
calls_back (c ∷ cs) = ap (λ ds. c ∷ ds) (calls_back cs)

-- ---- the sections that must be there

first_read : (v : Number) (more : List NumberLine) → was_read number_rules (front v more) 0 ≡ true
first_read v more = let rest = Max v.max ∷ Initial v.initial ∷ more in lt-ltb 0 (count 0 (front v more)) (omega (arith, count-cons 0 (Called v.name) rest))

second_read : (v : Number) (more : List NumberLine) → was_read number_rules (front v more) 1 ≡ true
second_read v more = let rest = Initial v.initial ∷ more in lt-ltb 0 (count 1 (front v more)) (omega (arith, count-cons 1 (Called v.name) (Max v.max ∷ rest), count-cons 1 (Max v.max) rest))

third_read : (v : Number) (more : List NumberLine) → was_read number_rules (front v more) 2 ≡ true
third_read v more =
    let last = Initial v.initial ∷ more in
    let rest = Max v.max ∷ last in
    lt-ltb 0 (count 2 (front v more)) (omega (arith, count-cons 2 (Called v.name) rest, count-cons 2 (Max v.max) last, count-cons 2 (Initial v.initial) more))

-- so none is missing before a call
lacks_call : (v : Number) (more : List NumberLine) (c : NumberCall) → lacks number_rules (front v more) (call_rank c) ≡ false
lacks_call v more (Take k) = rw (first_read v more, second_read v more, third_read v more) refl
lacks_call v more TakeAny = rw (first_read v more, second_read v more, third_read v more) refl
lacks_call v more (Give k) = rw (first_read v more, second_read v more, third_read v more) refl
lacks_call v more GiveAny = rw (first_read v more, second_read v more, third_read v more) refl
lacks_call v more (AtLeast k) = rw (first_read v more, second_read v more, third_read v more) refl
lacks_call v more Value = rw (first_read v more, second_read v more, third_read v more) refl

-- ---- after a line that is below

-- a line is below another: by their sections, and in one section by their amounts
abbrev IsBelow : NumberLine → NumberLine → Type 0
IsBelow y x = pair_below (rank_of y, amount_in y) (rank_of x, amount_in x) ≡ true

-- a line with an amount is of a section of any number of lines
amount_not_single : (x : NumberLine) → 0 < amount_in x → is_single (slice_get sections (rank_of x)) ≡ false
amount_not_single (Called name) h = absurd (omega (arith, h))
amount_not_single (Max m) h = absurd (omega (arith, h))
amount_not_single (Initial s) h = absurd (omega (arith, h))
amount_not_single (Call (Take k)) h = refl
amount_not_single (Call TakeAny) h = absurd (omega (arith, h))
amount_not_single (Call (Give k)) h = refl
amount_not_single (Call GiveAny) h = absurd (omega (arith, h))
amount_not_single (Call (AtLeast k)) h = refl
amount_not_single (Call Value) h = absurd (omega (arith, h))
amount_not_single (TooLarge counted) h = absurd (omega (arith, h))
amount_not_single End h = absurd (omega (arith, h))

-- the two tests of a line after the last one
record Passes (y x : NumberLine) : Type 0 where
  in_order : is_late number_rules (Some y) x ≡ false
  ascending : ascends number_rules (Some y) x ≡ true

-- a line that the last one is below passes both
passes_behind : (y x : NumberLine) → IsBelow y x → Passes y x
passes_behind y x below = elim (or_cases (ltb (rank_of y) (rank_of x)) (eqb (rank_of y) (rank_of x) && ltb (amount_in y) (amount_in x)) below) [
  | inl rank ↦
      let under : rank_of y < rank_of x = ltb-true (rank_of y) (rank_of x) rank in
      let not_over : ltb (rank_of x) (rank_of y) ≡ false = le-ltb (rank_of x) (rank_of y) (omega (arith, under)) in
      let apart : eqb (rank_of x) (rank_of y) ≡ false = ne_eqb (rank_of x) (rank_of y) (λ e. omega (arith, e, under)) in
      record { in_order = rw (not_over, apart) refl; ascending = rw apart refl }
  | inr same ↦
      let both = and_parts (eqb (rank_of y) (rank_of x)) (ltb (amount_in y) (amount_in x)) same in
      let rank : rank_of y ≡ rank_of x = eqb-true (rank_of y) (rank_of x) both.0 in
      let rise : amount_in y < amount_in x = ltb-true (amount_in y) (amount_in x) both.1 in
      let not_over : ltb (rank_of x) (rank_of y) ≡ false = le-ltb (rank_of x) (rank_of y) (omega (arith, rank)) in
      let equal : eqb (rank_of x) (rank_of y) ≡ true = eq-eqb (rank_of x) (rank_of y) (sym rank) in
      let several = amount_not_single x (omega (arith, rise)) in
      record { in_order = rw (not_over, equal, several) refl; ascending = rw (equal, both.1) refl }
]

-- ---- the calls

-- the last line before a call, and that it is below those that come
record Ends (v : Number) (done rest : List NumberCall) : Type 0 where
  last : NumberLine
  is_last : last_item (before v done) ≡ Some last
  low : rank_of last < 9
  below : AllByRecursion (λ c. IsBelow last (Call c)) rest

-- after the head each call may come
head_ends : (v : Number) (cs : List NumberCall) → Ends v [] cs
head_ends v cs = record { last = Initial v.initial; is_last = refl; low = omega arith; below = all_above cs }
  where
    all_above : (ds : List NumberCall) → AllByRecursion (λ c. IsBelow (Initial v.initial) (Call c)) ds
    all_above [] = tt
    all_above (Take k ∷ ds) = (refl, all_above ds)
    all_above (TakeAny ∷ ds) = (refl, all_above ds)
    all_above (Give k ∷ ds) = (refl, all_above ds)
    all_above (GiveAny ∷ ds) = (refl, all_above ds)
    all_above (AtLeast k ∷ ds) = (refl, all_above ds)
    all_above (Value ∷ ds) = (refl, all_above ds)

-- a test of each as a fact of each
each_true : (p : NumberCall → Bool) (cs : List NumberCall) → list_all p cs ≡ true → AllByRecursion (λ c. p c ≡ true) cs
each_true p [] h = tt
each_true p (c ∷ cs) h = let both = and_parts (p c) (list_all p cs) h in (both.0, each_true p cs both.1)

-- one more call in front
before_more : (v : Number) (done : List NumberCall) (c : NumberCall) → before v (done ++ c ∷ []) ≡ before v done ++ Call c ∷ []
before_more v done c = ap (front v) (map-append Call done (c ∷ []))

-- after a call those may come below which it is
call_ends : (v : Number) (done : List NumberCall) (c : NumberCall) (rest : List NumberCall) → list_all (is_below c) rest ≡ true → Ends v (done ++ c ∷ []) rest
call_ends v done c rest h = record {
  last = Call c;
  is_last = ap last_item (before_more v done c) ∙ last_item_push (before v done) (Call c);
  low = omega (arith, (call_rank_low c).1);
  below = each_true (is_below c) rest h;
}

-- a call passes its tests
call_passes : (v : Number) (done : List NumberCall) (c : NumberCall) (rest : List NumberCall) → Ends v done (c ∷ rest) → is_within v.max c ≡ true → length done < 32 → HasPassed number_rules (before v done) (Call c)
call_passes v done c rest ends within few =
    let passes = passes_behind ends.last (Call c) ends.below.0 in
    record {
      in_order = ap (λ o. is_late number_rules o (Call c)) ends.is_last ∙ passes.in_order;
      lacks_none = lacks_call v (map Call done) c;
      misses_none = refl;
      in_range = and_from (is_within v.max c) (ltb (length (calls_of (map Call done))) 32) within (ap (λ (ds : List NumberCall). ltb (length ds) 32) (calls_back done) ∙ lt-ltb (length done) 32 few);
      has_room = room c;
      ascending = ap (λ o. ascends number_rules o (Call c)) ends.is_last ∙ passes.ascending;
      no_twin = no_twins (before v done);
    }
  where
    room : (c : NumberCall) → is_full (slice_get sections (call_rank c)) (count (call_rank c) (before v done)) ≡ false
    room (Take k) = refl
    room TakeAny = refl
    room (Give k) = refl
    room GiveAny = refl
    room (AtLeast k) = refl
    room Value = refl

-- so do all of them
calls_follow : (v : Number) (done rest : List NumberCall) → Ends v done rest → list_all (is_within v.max) rest ≡ true → are_ascending rest ≡ true → length done + length rest ≤ 32 → Follow (before v done) (map Call rest)
calls_follow v done [] ends within ascend few = tt
calls_follow v done (c ∷ rest) ends within ascend few =
    let amounts = and_parts (is_within v.max c) (list_all (is_within v.max) rest) within in
    let orders = and_parts (list_all (is_below c) rest) (are_ascending rest) ascend in
    let less : length done < 32 = omega (arith, few) in
    let more : length (done ++ c ∷ []) + length rest ≤ 32 = omega (arith, few, length-append done (c ∷ [])) in (
      call_passes v done c rest ends amounts.0 less,
      subst (λ (lines : List NumberLine). Follow lines (map Call rest)) (before_more v done c) (calls_follow v (done ++ c ∷ []) rest (call_ends v done c rest orders.0) amounts.1 orders.1 more),
    )

-- what comes last, after all of them
all_end : (v : Number) (done rest : List NumberCall) → Ends v done rest → are_ascending rest ≡ true → Ends v (done ++ rest) []
all_end v done [] ends ascend = rw (append-nil done) ends
all_end v done (c ∷ rest) ends ascend =
    let orders = and_parts (list_all (is_below c) rest) (are_ascending rest) ascend in
    subst (λ (ds : List NumberCall). Ends v ds []) (append_assoc done (c ∷ []) rest) (all_end v (done ++ c ∷ []) rest (call_ends v done c rest orders.0) orders.1)

-- ---- the whole

module _ (v : Number) (known : IsNumber v) where
  -- the head passes
  head_follows : Follow [] (front v [])
  head_follows =
      let some : leb 1 v.max ≡ true = le-leb 1 v.max known.some_max in
      let fit : leb v.max 4294967295 ≡ true = le-leb v.max 4294967295 known.max_fits in
      let inside : leb v.initial v.max ≡ true = le-leb v.initial v.max known.initial_inside in
      let name : HasPassed number_rules [] (Called v.name) = record { in_order = refl; lacks_none = refl; misses_none = refl; in_range = refl; has_room = refl; ascending = refl; no_twin = refl } in
      let max : HasPassed number_rules (Called v.name ∷ []) (Max v.max) = record { in_order = refl; lacks_none = refl; misses_none = refl; in_range = and_from _ _ some fit; has_room = refl; ascending = refl; no_twin = refl } in
      let initial : HasPassed number_rules (Called v.name ∷ Max v.max ∷ []) (Initial v.initial) = record { in_order = refl; lacks_none = refl; misses_none = refl; in_range = inside; has_room = refl; ascending = refl; no_twin = refl } in
      (name, (max, (initial, tt)))

  -- and `end`, since there is a call
  end_passes : HasPassed number_rules (before v v.calls) End
  end_passes =
      let ends = all_end v [] v.calls (head_ends v v.calls) known.ascending in
      let under : ltb (rank_of ends.last) 9 ≡ true = lt-ltb (rank_of ends.last) 9 ends.low in
      let passes = passes_behind ends.last End (or_left (ltb (rank_of ends.last) 9) _ under) in
      record {
        in_order = ap (λ o. is_late number_rules o End) ends.is_last ∙ passes.in_order;
        lacks_none = rw (first_read v (map Call v.calls), second_read v (map Call v.calls), third_read v (map Call v.calls)) refl;
        misses_none = ap (λ (ds : List NumberCall). eqb (length ds) 0) (calls_back v.calls) ∙ ne_eqb (length v.calls) 0 (λ e. omega (arith, e, known.some_call));
        in_range = refl;
        has_room = refl;
        ascending = ap (λ o. ascends number_rules o End) ends.is_last ∙ passes.ascending;
        no_twin = no_twins (before v v.calls);
      }

  low_calls : (cs : List NumberCall) → AllByRecursion (λ x. rank_of x < 9) (map Call cs)
  low_calls [] = tt
  low_calls (c ∷ cs) = (omega (arith, (call_rank_low c).1), low_calls cs)

  pub canonical_accepted : IsAccepted number_rules (canonical_lines v)
  canonical_accepted =
      let calls = calls_follow v [] v.calls (head_ends v v.calls) known.amounts known.ascending (omega (arith, known.calls_fit)) in
      let body : Follow [] (before v v.calls) = follow_append [] (front v []) (map Call v.calls) head_follows calls in
      accepted_with_end (before v v.calls) (omega arith, (omega arith, (omega arith, low_calls v.calls))) (follow_append [] (before v v.calls) (End ∷ []) body (end_passes, tt))
