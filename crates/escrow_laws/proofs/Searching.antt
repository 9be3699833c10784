-- What the search for a fault of one operation finds.
use Rattle.std.proofs.Common.{◌≡◌, ℕ, ◌+◌, ◌-◌, ◌<◌, ◌≤◌, ◌==◌, true, false, List, [], ◌∷◌, ◌++◌, map, length, slice_get, Option, Some, None, is_some, refl, sym, ap, subst, ◌∙◌, inl, inr, arith, below_more}
use Rattle.std.proofs.lemmas.Bool.{false≢true, both_ways, eqb-true, eq-eqb, cases_lt}
use Rattle.std.proofs.lemmas.List.{length_push}
use Rattle.std.specs.List.{range_with_len}
use Rattle.std.specs.Option.{unwrap_or}
use Rattle.std.proofs.lemmas.List.FromFn.{map-range_with_len_more}
use Rattle.std.proofs.lemmas.Option.{none-some, same_Some, slice_get_past}
use Rattle.type_table.specs.Table.{Table, IsTable, next}
use Rattle.type_table.specs.Laws.{StepsWithin}
use Rattle.type_table.proofs.Elements.{element_at, cases-more}
use Rattle.type_table.proofs.Least.{first_below-none, first_below-found, last_below-found}
use Rattle.type_table.proofs.Legal.{some_state}
use Rattle.escrow_laws.specs.declared.bounded.Bounded.{Bounded}
use Rattle.escrow_laws.specs.Bounds.{moved, moved_by, AreBounds, least_legal, greatest_legal, bounded_between, bounded_at, bounds_of, nowhere}
use Rattle.escrow_laws.specs.Faults.{IsNumericFault, IsFaultless, IsFirstNumericFault}
use Rattle.escrow_laws.specs.Search.{IsIllegalFrom, IsFirstLegalState, IsStretch, is_alike, IsFirstOfOperation, IsFaultlessAt, bounded_until, IsBounded}
use Rattle.escrow_laws.proofs.Numbers.{inside_is, moved-under, moved-over, moved-nowhere}

-- ---- steps

-- where it is legal it isn't illegal
legal-there : (T : Table) (s k t : ℕ) → next T s k ≡ Some t → next T s k ≡ None → ⊥
legal-there T s k t leads none = none-some t (sym none ∙ leads)

-- an operation is illegal where there is no step
illegal-by : (o : Option ℕ) → ((t : ℕ) → o ≡ Some t → ⊥) → o ≡ None
illegal-by None never = refl
illegal-by (Some t) never = absurd (never t refl)

-- no state past the last has a step
pub past-states : StepsWithin → (T : Table) → IsTable T → (s k : ℕ) → T.states ≤ s → next T s k ≡ None
past-states within T table s k past = illegal-by (next T s k) (λ t leads. let inside = (within T s k t table leads).0 in omega (arith, inside, past))

-- nor has an operation that there isn't
pub past-ops : StepsWithin → (T : Table) → IsTable T → (s k : ℕ) → length T.ops ≤ k → next T s k ≡ None
past-ops within T table s k past = illegal-by (next T s k) (λ t leads. let inside = (within T s k t table leads).1 in omega (arith, inside, past))

-- ---- where faults are

-- a fault is of an operation
pub fault-operation : StepsWithin → (T : Table) → IsTable T → (k s : ℕ) → IsNumericFault T k s → k < length T.ops
fault-operation within T table k s fault = elim fault [
  | inl gap ↦ let low = some_state (next T gap.low k) gap.legal_low in (within T gap.low k low.0 table low.1).1
  | inr moved ↦ (within T s k moved.end table moved.leads).1
]

-- in a state
pub fault-state : StepsWithin → (T : Table) → IsTable T → (k s : ℕ) → IsNumericFault T k s → s < T.states
fault-state within T table k s fault = elim fault [
  | inl gap ↦
      let high = some_state (next T gap.high k) gap.legal_high in
      let inside = (within T gap.high k high.0 table high.1).0 in
      let above = gap.above in
      omega (arith, inside, above)
  | inr moved ↦ (within T s k moved.end table moved.leads).0
]

-- where no operation of the table is at fault, none is
pub all-faultless : StepsWithin → (T : Table) → IsTable T → ((k s : ℕ) → k < length T.ops → IsNumericFault T k s → ⊥) → IsFaultless T
all-faultless within T table none k s fault = none k s (fault-operation within T table k s fault) fault

-- the first fault of the first operation that has one is the first
pub first-of-all : StepsWithin → (T : Table) → IsTable T → (k s : ℕ) → ((j r : ℕ) → j < k → IsNumericFault T j r → ⊥) → IsFirstOfOperation T k s → IsFirstNumericFault T k s
first-of-all within T table k s before first = record {
  operation = fault-operation within T table k s first.fails;
  state = fault-state within T table k s first.fails;
  fails = first.fails;
  least_operation = before;
  least_state = first.least;
}

-- ---- one operation

-- where it is illegal from the first state on, it is nowhere at fault
pub illegal-faultless : (T : Table) (k : ℕ) → IsIllegalFrom T k 0 → IsFaultlessAt T k
illegal-faultless T k illegal s fault = elim fault [
  | inl gap ↦ let low = some_state (next T gap.low k) gap.legal_low in legal-there T gap.low k low.0 low.1 (illegal gap.low (omega arith))
  | inr moved ↦ legal-there T s k moved.end moved.leads (illegal s (omega arith))
]

-- what is alike is legal
alike-legal : (s t r : ℕ) (o : Option ℕ) → is_alike s t r o ≡ true → (e : ℕ) × (o ≡ Some e) × (e + s ≡ r + t)
alike-legal s t r None alike = absurd (false≢true alike)
alike-legal s t r (Some e) alike = (e, refl, eqb-true (e + s) (r + t) alike)

-- and what is legal and not alike moves otherwise
otherwise-by : (s t r e : ℕ) (o : Option ℕ) → o ≡ Some e → is_alike s t r o ≡ false → e + s ≡ r + t → ⊥
otherwise-by s t r e o leads differs same = both_ways (e + s == r + t) (rw leads at differs) (eq-eqb (e + s) (r + t) same)

-- the step itself is alike, so what differs comes after it
pub stop-past : (T : Table) (k s t r : ℕ) → next T s k ≡ Some t → s ≤ r → is_alike s t r (next T r k) ≡ false → s < r
stop-past T k s t r leads from differs =
    elim (cases_lt s r) [
      | inl past ↦ past
      | inr back ↦
          let same : s ≡ r = omega (arith, from, back) in
          let here : next T r k ≡ Some t = ap (λ q. next T q k) (sym same) ∙ leads in
          absurd (otherwise-by s t r t (next T r k) here differs (omega (arith, same)))
    ]

-- no state past the last is alike
pub stop-last : StepsWithin → (T : Table) → IsTable T → (k s t : ℕ) → is_alike s t T.states (next T T.states k) ≡ false
stop-last within T table k s t = rw (past-states within T table T.states k (omega arith)) refl

-- before the stop there is no fault
pub before-stop : (T : Table) (k s t stop : ℕ) → IsFirstLegalState T k 0 s t → IsStretch T k s t stop → (r : ℕ) → r < stop → IsNumericFault T k r → ⊥
before-stop T k s t stop first stretch r inside fault = elim fault [
  | inl gap ↦
      let low = some_state (next T gap.low k) gap.legal_low in
      let below = gap.below in
      elim (cases_lt gap.low s) [
        | inl under ↦ legal-there T gap.low k low.0 low.1 (first.least gap.low (omega arith) under)
        | inr from ↦
            let alike = alike-legal s t r (next T r k) (stretch.alike r (omega (arith, below, from)) inside) in
            legal-there T r k alike.0 alike.1 gap.illegal
      ]
  | inr moved ↦
      let least : moved.least ≡ s = same-least moved.least moved.least_end moved.least_leads moved.is_least in
      let ends : moved.least_end ≡ t = same_Some moved.least_end t (sym moved.least_leads ∙ ap (λ q. next T q k) least ∙ first.leads) in
      let from : s ≤ r = legal-from r moved.end moved.leads in
      let alike = alike-legal s t r (next T r k) (stretch.alike r from inside) in
      let end : alike.0 ≡ moved.end = same_Some alike.0 moved.end (sym alike.1 ∙ moved.leads) in
      let moves = alike.2 in
      moved.otherwise (omega (arith, least, ends, end, moves))
]
  where
    -- it isn't legal before s
    legal-from : (q e : ℕ) → next T q k ≡ Some e → s ≤ q
    legal-from q e leads = elim (cases_lt q s) [
      | inl under ↦ absurd (legal-there T q k e leads (first.least q (omega arith) under))
      | inr from ↦ from
    ]

    -- so s is the least state in which it is
    same-least : (q e : ℕ) → next T q k ≡ Some e → ((p : ℕ) → p < q → next T p k ≡ None) → q ≡ s
    same-least q e leads least = elim (cases_lt s q) [
      | inl later ↦ absurd (legal-there T s k t first.leads (least s later))
      | inr early ↦ let from = legal-from q e leads in omega (arith, early, from)
    ]

-- where it is legal at the stop or later, it is at fault there
pub stop-fault : (T : Table) (k s t stop r e : ℕ) → IsFirstLegalState T k 0 s t → IsStretch T k s t stop → stop ≤ r → next T r k ≡ Some e → IsNumericFault T k stop
stop-fault T k s t stop r e first stretch far leads = by_step (next T stop k) refl
  where
    by_step : (o : Option ℕ) → next T stop k ≡ o → IsNumericFault T k stop
    by_step None none = inl (record {
      low = s;
      high = r;
      below = stretch.past;
      above = elim (cases_lt stop r) [
        | inl later ↦ later
        | inr early ↦
            let same : stop ≡ r = omega (arith, early, far) in
            absurd (legal-there T r k e leads (ap (λ q. next T q k) (sym same) ∙ none))
      ];
      illegal = none;
      legal_low = rw (first.leads) refl;
      legal_high = rw leads refl;
    })
    by_step (Some end) there = inr (record {
      end = end;
      leads = there;
      least = s;
      least_end = t;
      least_leads = first.leads;
      is_least = λ q before. first.least q (omega arith) before;
      otherwise = otherwise-by s t stop end (next T stop k) there stretch.ends;
    })

-- so the stop is the first fault where it is legal at it or later
pub stop-first : (T : Table) (k s t stop r e : ℕ) → IsFirstLegalState T k 0 s t → IsStretch T k s t stop → IsFirstLegalState T k stop r e → IsFirstOfOperation T k stop
stop-first T k s t stop r e first stretch again = record {
  fails = stop-fault T k s t stop r e first stretch again.later again.leads;
  least = before-stop T k s t stop first stretch;
}

-- and there is none where it isn't
pub ended-faultless : (T : Table) (k s t stop : ℕ) → IsFirstLegalState T k 0 s t → IsStretch T k s t stop → IsIllegalFrom T k stop → IsFaultlessAt T k
ended-faultless T k s t stop first stretch ended r fault =
    elim (cases_lt r stop) [
      | inl inside ↦ before-stop T k s t stop first stretch r inside fault
      | inr behind ↦ elim fault [
        | inl gap ↦
            let high = some_state (next T gap.high k) gap.legal_high in
            let above = gap.above in
            legal-there T gap.high k high.0 high.1 (ended gap.high (omega (arith, behind, above)))
        | inr moved ↦ legal-there T r k moved.end moved.leads (ended r behind)
      ]
    ]

-- ---- how far the two searches have come

-- no state before n, from `start` on, in which k is legal
abbrev pub IsIllegalBefore : Table → ℕ → ℕ → ℕ → Type 0
IsIllegalBefore T k start n = (r : ℕ) → r < n → start ≤ r → next T r k ≡ None

pub none-yet : (T : Table) (k start : ℕ) → IsIllegalBefore T k start start
none-yet T k start r before far = absurd (omega (arith, before, far))

pub none-more : (T : Table) (k start n : ℕ) → IsIllegalBefore T k start n → next T n k ≡ None → IsIllegalBefore T k start (n + 1)
none-more T k start n before here = below_more (λ r. start ≤ r → next T r k ≡ None) n before (λ _. here)

pub legal-first : (T : Table) (k start s t : ℕ) → IsIllegalBefore T k start s → start ≤ s → next T s k ≡ Some t → IsFirstLegalState T k start s t
legal-first T k start s t before far leads = record { later = far; leads = leads; least = λ r later less. before r less later }

pub none-all : StepsWithin → (T : Table) → IsTable T → (k start n : ℕ) → IsIllegalBefore T k start n → T.states ≤ n → IsIllegalFrom T k start
none-all within T table k start n before whole r far =
    elim (cases_lt r n) [
      | inl inside ↦ before r inside far
      | inr past ↦ past-states within T table r k (omega (arith, whole, past))
    ]

-- all states before n, from s on, are moved as far as s is by the step to t
abbrev pub AreAlikeBefore : Table → ℕ → ℕ → ℕ → ℕ → Type 0
AreAlikeBefore T k s t n = (r : ℕ) → r < n → s ≤ r → is_alike s t r (next T r k) ≡ true

pub alike-yet : (T : Table) (k s t : ℕ) → AreAlikeBefore T k s t s
alike-yet T k s t r before far = absurd (omega (arith, before, far))

pub alike-more : (T : Table) (k s t n : ℕ) → AreAlikeBefore T k s t n → is_alike s t n (next T n k) ≡ true → AreAlikeBefore T k s t (n + 1)
alike-more T k s t n before here = below_more (λ r. s ≤ r → is_alike s t r (next T r k) ≡ true) n before (λ _. here)

pub stop-here : (T : Table) (k s t n : ℕ) → next T s k ≡ Some t → AreAlikeBefore T k s t n → s ≤ n → n ≤ T.states → is_alike s t n (next T n k) ≡ false → IsStretch T k s t n
stop-here T k s t n leads before far inside differs = record {
  past = stop-past T k s t n leads far differs;
  inside = inside;
  alike = λ r from less. before r less from;
  ends = differs;
}

pub stop-end : StepsWithin → (T : Table) → IsTable T → (k s t n : ℕ) → next T s k ≡ Some t → AreAlikeBefore T k s t n → T.states ≤ n → IsStretch T k s t T.states
stop-end within T table k s t n leads before whole =
    let inside = (within T s k t table leads).0 in
    stop-here T k s t T.states leads (λ r less from. before r (omega (arith, less, whole)) from) (omega (arith, inside)) (omega arith) (stop-last within T table k s t)

-- ---- its bounds

-- where it is nowhere at fault, it is illegal from the stop on
ended-by : (T : Table) (k s t stop : ℕ) → IsFirstLegalState T k 0 s t → IsStretch T k s t stop → IsFaultlessAt T k → IsIllegalFrom T k stop
ended-by T k s t stop first stretch faultless r far =
    illegal-by (next T r k) (λ e leads. faultless stop (stop-fault T k s t stop r e first stretch far leads))

-- what is illegal has no step
not-legal : (T : Table) (k s : ℕ) → next T s k ≡ None → is_some (next T s k) ≡ false
not-legal T k s none = ap is_some none

legal-here : (T : Table) (k s t : ℕ) → next T s k ≡ Some t → is_some (next T s k) ≡ true
legal-here T k s t leads = ap is_some leads

-- one that is legal nowhere has bounds
pub nowhere-bounded : (T : Table) (k : ℕ) → IsIllegalFrom T k 0 → IsBounded T k nowhere
nowhere-bounded T k illegal = record {
  is = sym (ap (λ low. bounded_between T k low (greatest_legal T k)) (first_below-none (λ s. is_some (next T s k)) T.states (λ s inside. not-legal T k s (illegal s (omega arith)))));
  steps = λ s. illegal s (omega arith) ∙ sym (moved-nowhere s);
  within = record { enough = omega arith; legal = omega arith; room = omega arith };
}

-- and so has one that is legal from s up to the stop
pub stretch-bounded : StepsWithin → (T : Table) → IsTable T → (k s t stop : ℕ) → IsFirstLegalState T k 0 s t → IsStretch T k s t stop → IsFaultlessAt T k → IsBounded T k (bounded_until s t stop)
stretch-bounded within T table k s t stop first stretch faultless = record {
  is = sym (ap (λ low. bounded_between T k low (greatest_legal T k)) least ∙ ap (bounded_between T k (Some s)) greatest
      ∙ ap (λ step. (let end = unwrap_or step s in record { low = s; high = stop - 1; gives = end - s; takes = s - end })) leads);
  steps = λ r. elim (cases_lt r s) [
    | inl under ↦ first.least r (omega arith) under ∙ sym (moved-under (bounded_until s t stop) r under)
    | inr from ↦ elim (cases_lt r stop) [
      | inl inside ↦
          let alike = alike-legal s t r (next T r k) (stretch.alike r from inside) in
          let moves = alike.2 in
          let end : alike.0 ≡ r + (t - s) - (s - t) = omega (arith, moves, from) in
          alike.1 ∙ ap (λ (e : ℕ). Some e) end ∙ sym (inside_is (bounded_until s t stop) r from (omega (arith, inside)))
      | inr behind ↦ ended-by T k s t stop first stretch faultless r behind ∙ sym (moved-over (bounded_until s t stop) r (omega (arith, behind, past)))
    ]
  ];
  within = record {
    enough = omega arith;
    legal = omega (arith, inside_states);
    room = omega (arith, last_moves, last_inside, past);
  };
}
  where
    past : s < stop
    past = stretch.past

    inside_states : stop ≤ T.states
    inside_states = stretch.inside

    -- the step from the last state in which it is legal
    last : (e : ℕ) × (next T (stop - 1) k ≡ Some e) × (e + s ≡ stop - 1 + t)
    last = alike-legal s t (stop - 1) (next T (stop - 1) k) (stretch.alike (stop - 1) (omega (arith, past)) (omega (arith, past)))

    last_moves : last.0 + s ≡ stop - 1 + t
    last_moves = last.2

    last_inside : last.0 < T.states
    last_inside = (within T (stop - 1) k last.0 table last.1).2

    leads : next T s k ≡ Some t
    leads = first.leads

    -- the least state in which it is legal, and the greatest
    least : least_legal T k ≡ Some s
    least =
        first_below-found (λ r. is_some (next T r k)) s T.states
        (first_below-none (λ r. is_some (next T r k)) s (λ r under. not-legal T k r (first.least r (omega arith) under)))
        (legal-here T k s t leads) (omega (arith, past, inside_states))

    greatest : greatest_legal T k ≡ Some (stop - 1)
    greatest =
        last_below-found (λ r. is_some (next T r k)) (stop - 1) T.states (legal-here T k (stop - 1) last.0 last.1) (omega (arith, past, inside_states))
        (λ r over inside. not-legal T k r (ended-by T k s t stop first stretch faultless r (omega (arith, over))))

-- ---- all operations

-- the bounds so far
pub record AreFirstBounds (T : Table) (ops : List Bounded) (n : ℕ) : Type 0 where
  pub are : ops ≡ map (bounded_at T) (range_with_len 0 n)
  pub count : length ops ≡ n
  pub each : (k : ℕ) (b : Bounded) → slice_get ops k ≡ Some b → IsBounded T k b

-- none
pub no-bounds : (T : Table) (ops : List Bounded) → ops ≡ [] → AreFirstBounds T ops 0
no-bounds T ops none = record {
  are = none;
  count = rw none refl;
  each = λ k b there. absurd (none-some b (rw none at there));
}

-- one more
pub more-bounds : (T : Table) (old new : List Bounded) (n : ℕ) (b : Bounded) → new ≡ old ++ b ∷ [] → AreFirstBounds T old n → IsBounded T n b → AreFirstBounds T new (n + 1)
more-bounds T old new n b more first here = record {
  are = more ∙ ap (λ (front : List Bounded). front ++ b ∷ []) first.are ∙ ap (λ (c : Bounded). map (bounded_at T) (range_with_len 0 n) ++ c ∷ []) here.is
      ∙ sym (map-range_with_len_more (bounded_at T) 0 n n (omega arith));
  count = rw more (let joined = length_push old b in let count = first.count in omega (arith, joined, count));
  each = λ k c there. elim (cases-more old b k c (rw more at there)) [
    | inl before ↦ first.each k c before
    | inr last ↦ subst (λ d. IsBounded T k d) last.1 (subst (λ j. IsBounded T j b) (sym (last.0 ∙ first.count)) here)
  ];
}

-- all
pub all-are : (T : Table) (ops : List Bounded) (n : ℕ) → n ≡ length T.ops → AreFirstBounds T ops n → ops ≡ bounds_of T
all-are T ops n whole first = first.are ∙ ap (λ (count : ℕ). map (bounded_at T) (range_with_len 0 count)) whole

pub all-bounds : StepsWithin → (T : Table) → IsTable T → (ops : List Bounded) (n : ℕ) → length T.ops ≤ n → AreFirstBounds T ops n → AreBounds T (T.states - 1) ops
all-bounds within T table ops n whole first = record {
  steps = λ s k. elim (cases_lt k (length ops)) [
    | inl inside ↦
        let one = element_at ops k inside in
        (first.each k one.0 one.1).steps s ∙ sym (ap (λ found. moved_by found s) one.1)
    | inr past ↦
        let count = first.count in
        past-ops within T table s k (omega (arith, past, count, whole)) ∙ sym (ap (λ found. moved_by found s) (slice_get_past ops k past))
  ];
  within = λ k b there. (first.each k b there).within;
}
