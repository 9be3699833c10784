-- Sums and extremes of marks, with another mark of one transaction, and without one's.
use Rattle.std.proofs.Common.{◌≡◌, ℕ, ◌+◌, ◌-◌, ◌^◌, ◌<◌, ◌≤◌, ◌⊎◌, ◌||◌, true, false, eqb, ltb, List, [], ◌∷◌, refl, sym, ap, subst, inl, inr, arith}
use Rattle.std.specs.Prelude.{max, min, nat_le, nat_lt}
use Rattle.std.specs.List.{sum_by, AllByRecursion}
use Rattle.std.proofs.lemmas.Bool.{cases_Bool, and_parts, or_cases, leb-true, ltb-true, eqb-true, ne_eqb}
use Rattle.std.proofs.lemmas.List.Sums.{sum_by-cons}
use Rattle.escrow_laws.specs.Marks.{unmarked, fallen_of, risen_of, most_needed, least_limit}
use Rattle.escrow_laws.specs.declared.mark.Mark.{Mark}
use Rattle.escrow_laws.specs.declared.mark.OpenMark.{OpenMark}
use Rattle.escrow_manager.specs.Marks.{mark_owners, MarksAscend, mark_in, with_mark, without_mark}
use Rattle.escrow_manager.specs.Totals.{need_of, mark_limit, totals_of, totals_with, stand, HasShortSums}

-- where all are of later transactions, t has none
none-later : (t top : ℕ) (x : ℕ) (marks : List OpenMark) → t ≤ x → AllByRecursion (λ y. x < y) (mark_owners marks) → mark_in top t marks ≡ unmarked top
none-later t top x [] below later = refl
none-later t top x (o ∷ marks) below later =
    let next = later.0 in
    let other : eqb o.by t ≡ false = ne_eqb o.by t (λ e. omega (arith, below, next, e)) in
    rw other (none-later t top x marks below later.1)

-- ---- sums

module _ (top : ℕ) (amount : Mark → ℕ) (nothing : amount (unmarked top) ≡ 0) where
  -- one mark's is counted
  pub counted : (u : ℕ) (marks : List OpenMark) → amount (mark_in top u marks) ≤ sum_by (λ (o : OpenMark). amount o.mark) marks
  counted u [] = omega (arith, nothing)
  counted u (o ∷ marks) =
      let both = sum_by-cons (λ (q : OpenMark). amount q.mark) o marks in
      let rest = counted u marks in
      elim (cases_Bool (eqb o.by u)) [
        | inl is ↦ rw is (omega (arith, both))
        | inr other ↦ rw other (omega (arith, both, rest))
      ]

  -- and two of different transactions
  pub counted-both : (t u : ℕ) (marks : List OpenMark) → eqb t u ≡ false → amount (mark_in top t marks) + amount (mark_in top u marks) ≤ sum_by (λ (o : OpenMark). amount o.mark) marks
  counted-both t u [] other = omega (arith, nothing)
  counted-both t u (o ∷ marks) other =
      let both = sum_by-cons (λ (q : OpenMark). amount q.mark) o marks in
      elim (cases_Bool (eqb o.by t)) [
        | inl is ↦
            let same : o.by ≡ t = eqb-true o.by t is in
            let apart : eqb o.by u ≡ false = subst (λ n. eqb n u ≡ false) (sym same) other in
            let rest = counted u marks in
            rw (is, apart) (omega (arith, both, rest))
        | inr isnt ↦ elim (cases_Bool (eqb o.by u)) [
          | inl is ↦ let rest = counted t marks in rw (isnt, is) (omega (arith, both, rest))
          | inr neither ↦ let rest = counted-both t u marks other in rw (isnt, neither) (omega (arith, both, rest))
        ]
      ]

  -- and with another in its place
  exchanged : (w : OpenMark) (marks : List OpenMark) → MarksAscend marks →
      sum_by (λ (o : OpenMark). amount o.mark) (with_mark w marks) + amount (mark_in top w.by marks) ≡ sum_by (λ (o : OpenMark). amount o.mark) marks + amount w.mark
  exchanged w [] ordered = let one = sum_by-cons (λ (q : OpenMark). amount q.mark) w [] in omega (arith, one, nothing)
  exchanged w (o ∷ marks) ordered =
      let f : OpenMark → ℕ = λ q. amount q.mark in
      let both = sum_by-cons f o marks in
      elim (cases_Bool (eqb o.by w.by)) [
        | inl is ↦ let with = sum_by-cons f w marks in rw is (omega (arith, both, with))
        | inr isnt ↦ elim (cases_Bool (ltb w.by o.by)) [
          | inl before ↦
              let with = sum_by-cons f w (o ∷ marks) in
              let first = ltb-true w.by o.by before in
              let none = ap amount (none-later w.by top o.by marks (omega (arith, first)) ordered.0) in
              rw (isnt, before) (omega (arith, with, none, nothing))
          | inr behind ↦
              let with = sum_by-cons f o (with_mark w marks) in
              let rest = exchanged w marks ordered.1 in
              rw (isnt, behind) (omega (arith, both, with, rest))
        ]
      ]

  pub sum-put : (w : OpenMark) (marks : List OpenMark) → MarksAscend marks →
      sum_by (λ (o : OpenMark). amount o.mark) (with_mark w marks) ≡ (sum_by (λ (o : OpenMark). amount o.mark) marks - amount (mark_in top w.by marks)) + amount w.mark
  sum-put w marks ordered = let less = counted w.by marks in let both = exchanged w marks ordered in omega (arith, less, both)

  -- and without it
  dropped : (t : ℕ) (marks : List OpenMark) → MarksAscend marks → sum_by (λ (o : OpenMark). amount o.mark) (without_mark t marks) + amount (mark_in top t marks) ≡ sum_by (λ (o : OpenMark). amount o.mark) marks
  dropped t [] ordered = omega (arith, nothing)
  dropped t (o ∷ marks) ordered =
      let f : OpenMark → ℕ = λ q. amount q.mark in
      let both = sum_by-cons f o marks in
      let rest = dropped t marks ordered.1 in
      elim (cases_Bool (eqb o.by t)) [
        | inl is ↦
            let same : o.by ≡ t = eqb-true o.by t is in
            let none = ap amount (none-later t top o.by marks (omega (arith, same)) ordered.0) in
            rw is (omega (arith, both, rest, none, nothing))
        | inr isnt ↦
            let without = sum_by-cons f o (without_mark t marks) in
            rw isnt (omega (arith, both, rest, without))
      ]

  pub sum-dropped : (t : ℕ) (marks : List OpenMark) → MarksAscend marks →
      sum_by (λ (o : OpenMark). amount o.mark) (without_mark t marks) ≡ sum_by (λ (o : OpenMark). amount o.mark) marks - amount (mark_in top t marks)
  sum-dropped t marks ordered = let both = dropped t marks ordered in omega (arith, both)

-- who has a short mark, or none, rises by little
pub rise-short : (top u : ℕ) (marks : List OpenMark) → AllByRecursion (λ (o : OpenMark). HasShortSums o.mark) marks → (mark_in top u marks).rise < 2 ^ 62
rise-short top u [] each = omega arith
rise-short top u (o ∷ marks) each = elim (cases_Bool (eqb o.by u)) [
  | inl is ↦ rw is each.0.rise
  | inr other ↦ rw other (rise-short top u marks each.1)
]

-- ---- extremes

-- no limit is above the range
pub limit-least : (top : ℕ) (marks : List OpenMark) → least_limit top marks ≤ top + 1
limit-least top [] = omega arith
limit-least top (o ∷ os) = let rest = limit-least top os in omega (arith, rest)

-- no more is needed than before, or by the other mark
pub needed-put : (w : OpenMark) (marks : List OpenMark) → most_needed (with_mark w marks) ≤ max (most_needed marks) (need_of w.mark)
needed-put w [] = omega arith
needed-put w (o ∷ marks) =
    let rest = needed-put w marks in
    elim (cases_Bool (eqb o.by w.by)) [
      | inl is ↦ rw is (omega arith)
      | inr isnt ↦ elim (cases_Bool (ltb w.by o.by)) [
        | inl before ↦ rw (isnt, before) (omega arith)
        | inr behind ↦ rw (isnt, behind) (omega (arith, rest))
      ]
    ]

-- nor is the limit lower
pub limit-put : (top : ℕ) (w : OpenMark) (marks : List OpenMark) → min (least_limit top marks) (mark_limit w.mark) ≤ least_limit top (with_mark w marks)
limit-put top w [] = omega arith
limit-put top w (o ∷ marks) =
    let rest = limit-put top w marks in
    elim (cases_Bool (eqb o.by w.by)) [
      | inl is ↦ rw is (omega arith)
      | inr isnt ↦ elim (cases_Bool (ltb w.by o.by)) [
        | inl before ↦ rw (isnt, before) (omega arith)
        | inr behind ↦ rw (isnt, behind) (omega (arith, rest))
      ]
    ]

-- one mark needs no more than the most that one needs
pub needed-counted : (top u : ℕ) (marks : List OpenMark) → need_of (mark_in top u marks) ≤ most_needed marks
needed-counted top u [] = omega arith
needed-counted top u (o ∷ marks) =
    let rest = needed-counted top u marks in
    elim (cases_Bool (eqb o.by u)) [
      | inl is ↦ rw is (omega arith)
      | inr other ↦ rw other (omega (arith, rest))
    ]

-- nor has it a lower limit than the least
pub limit-counted : (top u : ℕ) (marks : List OpenMark) → least_limit top marks ≤ mark_limit (mark_in top u marks)
limit-counted top u [] = omega arith
limit-counted top u (o ∷ marks) =
    let rest = limit-counted top u marks in
    elim (cases_Bool (eqb o.by u)) [
      | inl is ↦ rw is (omega arith)
      | inr other ↦ rw other (omega (arith, rest))
    ]

-- with another mark as much is needed as by it, or by those that stay
needed-own : (w : OpenMark) (marks : List OpenMark) → need_of w.mark ≤ most_needed (with_mark w marks)
needed-own w [] = omega arith
needed-own w (o ∷ marks) =
    let rest = needed-own w marks in
    elim (cases_Bool (eqb o.by w.by)) [
      | inl is ↦ rw is (omega arith)
      | inr isnt ↦ elim (cases_Bool (ltb w.by o.by)) [
        | inl before ↦ rw (isnt, before) (omega arith)
        | inr behind ↦ rw (isnt, behind) (omega (arith, rest))
      ]
    ]

needed-stays : (top : ℕ) (w : OpenMark) (marks : List OpenMark) → most_needed marks ≤ max (need_of (mark_in top w.by marks)) (most_needed (with_mark w marks))
needed-stays top w [] = omega arith
needed-stays top w (o ∷ marks) =
    let rest = needed-stays top w marks in
    elim (cases_Bool (eqb o.by w.by)) [
      | inl is ↦ rw is (omega arith)
      | inr isnt ↦ elim (cases_Bool (ltb w.by o.by)) [
        | inl before ↦ rw (isnt, before) (omega arith)
        | inr behind ↦ rw (isnt, behind) (omega (arith, rest))
      ]
    ]

-- and the limit
limit-own : (top : ℕ) (w : OpenMark) (marks : List OpenMark) → least_limit top (with_mark w marks) ≤ mark_limit w.mark
limit-own top w [] = omega arith
limit-own top w (o ∷ marks) =
    let rest = limit-own top w marks in
    elim (cases_Bool (eqb o.by w.by)) [
      | inl is ↦ rw is (omega arith)
      | inr isnt ↦ elim (cases_Bool (ltb w.by o.by)) [
        | inl before ↦ rw (isnt, before) (omega arith)
        | inr behind ↦ rw (isnt, behind) (omega (arith, rest))
      ]
    ]

limit-stays : (top : ℕ) (w : OpenMark) (marks : List OpenMark) → min (mark_limit (mark_in top w.by marks)) (least_limit top (with_mark w marks)) ≤ least_limit top marks
limit-stays top w [] = omega arith
limit-stays top w (o ∷ marks) =
    let rest = limit-stays top w marks in
    elim (cases_Bool (eqb o.by w.by)) [
      | inl is ↦ rw is (omega arith)
      | inr isnt ↦ elim (cases_Bool (ltb w.by o.by)) [
        | inl before ↦ rw (isnt, before) (omega arith)
        | inr behind ↦ rw (isnt, behind) (omega (arith, rest))
      ]
    ]

-- without a mark no more is needed than with it, and as much as by those that stay
needed-dropped : (t : ℕ) (marks : List OpenMark) → most_needed (without_mark t marks) ≤ most_needed marks
needed-dropped t [] = omega arith
needed-dropped t (o ∷ marks) =
    let rest = needed-dropped t marks in
    elim (cases_Bool (eqb o.by t)) [
      | inl is ↦ rw is (omega (arith, rest))
      | inr isnt ↦ rw isnt (omega (arith, rest))
    ]

needed-left : (top t : ℕ) (marks : List OpenMark) → MarksAscend marks → most_needed marks ≤ max (need_of (mark_in top t marks)) (most_needed (without_mark t marks))
needed-left top t [] ordered = omega arith
needed-left top t (o ∷ marks) ordered =
    let rest = needed-left top t marks ordered.1 in
    elim (cases_Bool (eqb o.by t)) [
      | inl is ↦
          let same : o.by ≡ t = eqb-true o.by t is in
          let none = ap need_of (none-later t top o.by marks (omega (arith, same)) ordered.0) in
          rw is (omega (arith, rest, none))
      | inr isnt ↦ rw isnt (omega (arith, rest))
    ]

-- and the limit
limit-dropped : (top t : ℕ) (marks : List OpenMark) → least_limit top marks ≤ least_limit top (without_mark t marks)
limit-dropped top t [] = omega arith
limit-dropped top t (o ∷ marks) =
    let rest = limit-dropped top t marks in
    elim (cases_Bool (eqb o.by t)) [
      | inl is ↦ rw is (omega (arith, rest))
      | inr isnt ↦ rw isnt (omega (arith, rest))
    ]

limit-left : (top t : ℕ) (marks : List OpenMark) → MarksAscend marks → min (mark_limit (mark_in top t marks)) (least_limit top (without_mark t marks)) ≤ least_limit top marks
limit-left top t [] ordered = omega arith
limit-left top t (o ∷ marks) ordered =
    let rest = limit-left top t marks ordered.1 in
    let most = limit-least top (without_mark t marks) in
    elim (cases_Bool (eqb o.by t)) [
      | inl is ↦
          let same : o.by ≡ t = eqb-true o.by t is in
          let none = ap mark_limit (none-later t top o.by marks (omega (arith, same)) ordered.0) in
          rw is (omega (arith, rest, none, most))
      | inr isnt ↦ rw isnt (omega (arith, rest))
    ]

-- ---- the totals

-- what two tests of numbers say
either-most : (a b c d : ℕ) → (nat_le a b || nat_lt c d) ≡ true → (a ≤ b) ⊎ (c < d)
either-most a b c d is = elim (or_cases (nat_le a b) (nat_lt c d) is) [ inl first ↦ inl (leb-true a b first) | inr second ↦ inr (ltb-true c d second) ]

-- where the new extreme is one that stays, it is computed
needed-told : (old new before after : ℕ) → (old ≤ new) ⊎ (old < before) → after ≤ max before new → new ≤ after → before ≤ max old after → max before new ≡ after
needed-told old new before after (inl more) most own stays = omega (arith, more, most, own, stays)
needed-told old new before after (inr less) most own stays = omega (arith, less, most, own, stays)

limit-told : (old new before after : ℕ) → (new ≤ old) ⊎ (before < old) → min before new ≤ after → after ≤ new → min old after ≤ before → min before new ≡ after
limit-told old new before after (inl less) most own stays = omega (arith, less, most, own, stays)
limit-told old new before after (inr more) most own stays = omega (arith, more, most, own, stays)

-- the totals of the marks with another one, where the extremes of the one before aren't the only ones
pub totals-told : (top : ℕ) (w : OpenMark) (marks : List OpenMark) → MarksAscend marks → stand (totals_of top marks) (mark_in top w.by marks) w.mark ≡ true →
    totals_with (totals_of top marks) (mark_in top w.by marks) w.mark ≡ totals_of top (with_mark w marks)
totals-told top w marks ordered is =
    let old = mark_in top w.by marks in
    let parts = and_parts (nat_le (need_of old) (need_of w.mark) || nat_lt (need_of old) (most_needed marks)) (nat_le (mark_limit w.mark) (mark_limit old) || nat_lt (least_limit top marks) (mark_limit old)) is in
    let needed = needed-told (need_of old) (need_of w.mark) (most_needed marks) (most_needed (with_mark w marks)) (either-most (need_of old) (need_of w.mark) (need_of old) (most_needed marks) parts.0) (needed-put w marks) (needed-own w marks) (needed-stays top w marks) in
    let limit = limit-told (mark_limit old) (mark_limit w.mark) (least_limit top marks) (least_limit top (with_mark w marks)) (either-most (mark_limit w.mark) (mark_limit old) (least_limit top marks) (mark_limit old) parts.1) (limit-put top w marks) (limit-own top w marks) (limit-stays top w marks) in
    rw (sum-put top (λ x. x.fall) refl w marks ordered, sum-put top (λ x. x.rise) refl w marks ordered, needed, limit) refl

-- and without one
pub totals-left : (top t : ℕ) (marks : List OpenMark) → MarksAscend marks → stand (totals_of top marks) (mark_in top t marks) (unmarked top) ≡ true →
    totals_with (totals_of top marks) (mark_in top t marks) (unmarked top) ≡ totals_of top (without_mark t marks)
totals-left top t marks ordered is =
    let old = mark_in top t marks in
    let none = unmarked top in
    let most = limit-least top (without_mark t marks) in
    let parts = and_parts (nat_le (need_of old) (need_of none) || nat_lt (need_of old) (most_needed marks)) (nat_le (mark_limit none) (mark_limit old) || nat_lt (least_limit top marks) (mark_limit old)) is in
    let less = needed-dropped t marks in
    let more = limit-dropped top t marks in
    let needed = needed-told (need_of old) (need_of none) (most_needed marks) (most_needed (without_mark t marks)) (either-most (need_of old) (need_of none) (need_of old) (most_needed marks) parts.0) (omega (arith, less)) (omega arith) (needed-left top t marks ordered) in
    let limit = limit-told (mark_limit old) (mark_limit none) (least_limit top marks) (least_limit top (without_mark t marks)) (either-most (mark_limit none) (mark_limit old) (least_limit top marks) (mark_limit old) parts.1) (omega (arith, more)) (omega (arith, most)) (limit-left top t marks ordered) in
    let fallen : (fallen_of marks - old.fall) + 0 ≡ fallen_of (without_mark t marks) = let less = sum-dropped top (λ x. x.fall) refl t marks ordered in omega (arith, less) in
    let risen : (risen_of marks - old.rise) + 0 ≡ risen_of (without_mark t marks) = let less = sum-dropped top (λ x. x.rise) refl t marks ordered in omega (arith, less) in
    λ j. record { fallen = fallen j; risen = risen j; needed = needed j; limit = limit j }
