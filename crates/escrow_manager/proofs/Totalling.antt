-- Totals of the marks so far, and of one more.
use Rattle.std.proofs.Common.{◌≡◌, ℕ, ◌+◌, ◌-◌, ◌<◌, List, [], ◌∷◌, ◌++◌, length, take, get_or, sym, ap, ◌∙◌, arith}
use Rattle.std.specs.Prelude.{max, min}
use Rattle.std.proofs.lemmas.List.{take_more}
use Rattle.std.proofs.lemmas.List.Sums.{sum_by_more}
use Rattle.escrow_laws.specs.Marks.{unmarked, fallen_of, risen_of, most_needed, least_limit}
use Rattle.escrow_laws.specs.declared.mark.Mark.{Mark}
use Rattle.escrow_laws.specs.declared.mark.OpenMark.{OpenMark}
use Rattle.escrow_manager.specs.Totals.{need_of, mark_limit, totals_of, totals_with}
use Rattle.escrow_manager.specs.declared.totals.Totals.{Totals}

needed-more : (marks : List OpenMark) (o : OpenMark) → max (most_needed marks) (need_of o.mark) ≡ most_needed (marks ++ o ∷ [])
needed-more [] o = omega arith
needed-more (q ∷ marks) o = let rest = needed-more marks o in omega (arith, rest)

limit-more : (top : ℕ) (marks : List OpenMark) (o : OpenMark) → min (least_limit top marks) (mark_limit o.mark) ≡ least_limit top (marks ++ o ∷ [])
limit-more top [] o = omega arith
limit-more top (q ∷ marks) o = let rest = limit-more top marks o in omega (arith, rest)

-- the totals with the next mark, whose transaction had none before
totals-next : (top : ℕ) (marks : List OpenMark) (i : ℕ) (d : OpenMark) → i < length marks →
    totals_with (totals_of top (take i marks)) (unmarked 0) (get_or marks i d).mark ≡ totals_of top (take (i + 1) marks)
totals-next top marks i d within =
    let front = take i marks in
    let next = get_or marks i d in
    let more : front ++ next ∷ [] ≡ take (i + 1) marks = sym (take_more marks i d within) in
    let falls = sum_by_more (λ (q : OpenMark). q.mark.fall) marks i d within in
    let rises = sum_by_more (λ (q : OpenMark). q.mark.rise) marks i d within in
    let fallen : (fallen_of front - 0) + next.mark.fall ≡ fallen_of (take (i + 1) marks) = omega (arith, falls) in
    let risen : (risen_of front - 0) + next.mark.rise ≡ risen_of (take (i + 1) marks) = omega (arith, rises) in
    let needed = needed-more front next ∙ ap most_needed more in
    let limit = limit-more top front next ∙ ap (least_limit top) more in
    λ j. record { fallen = fallen j; risen = risen j; needed = needed j; limit = limit j }

-- so a step of a loop over the marks gives those of one more
pub totals-more : (top : ℕ) (marks all : List OpenMark) (i : ℕ) (d : OpenMark) (before after : Totals) (none : Mark) → marks ≡ all → i < length marks →
    before ≡ totals_of top (take i all) → none ≡ unmarked 0 → after ≡ totals_with before none (get_or marks i d).mark → after ≡ totals_of top (take (i + 1) all)
totals-more top marks all i d before after none same within so_far nothing step =
    let next = (get_or marks i d).mark in
    let start : before ≡ totals_of top (take i marks) = rw same so_far in
    step ∙ ap (λ (t : Totals). totals_with t none next) start ∙ ap (λ (m : Mark). totals_with (totals_of top (take i marks)) m next) nothing ∙ totals-next top marks i d within
    ∙ ap (λ (ms : List OpenMark). totals_of top (take (i + 1) ms)) same
