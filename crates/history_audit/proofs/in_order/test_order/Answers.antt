use Rattle.std.proofs.Common.{◌≡◌, List, true, length, subst, sym, ap, ◌∙◌, arith}
use Rattle.std.proofs.lemmas.List.{length-map}
use Rattle.serial_order.specs.Operations.{is_among}
use Rattle.history_audit.specs.Commits.{numbers}
use Rattle.history_audit.specs.InOrder.{HasAll}
use Rattle.history_audit.specs.OrderTests.{AreDates}
use Rattle.history_judge.specs.declared.committed.Committed.{Committed}
use Rattle.history_audit.proofs.Ordered.{number-below, tested}
use Rattle.history_audit.proofs.in_order.test_order.Goals as goal

pub dates_of-requires : goal.dates_of-requires
dates_of-requires c = ap length c.as_slice-count.ensures ∙ sym (length-map c.args.committed.now (λ (d : Committed). d.number)) ∙ ap length c.requires.numbers

pub each_after-requires-clause-above : goal.each_after-requires-clause-above
each_after-requires-clause-above c = rw (c.deref-2.ensures.value, c.in_ok-dates.ensures.long) c.above.ensures

pub each_after-requires-clause-dates : goal.each_after-requires-clause-dates
each_after-requires-clause-dates c = λ u is.
    let date = c.in_ok-dates.ensures.dates u (number-below c.args.committed.now c.above.result u c.above.ensures is) (c.requires.apart u (subst (λ C. is_among C u ≡ true) c.requires.numbers is)) in
    let inside = date.inside in
    let many = ap length c.requires.numbers in
    let mapped = length-map c.args.committed.now (λ (d : Committed). d.number) in
    rw c.deref-2.ensures.value (omega (arith, inside, many, mapped))

pub returns : goal.returns
returns c =
    let dated : AreDates c.args.events.now c.deref-2.result.now = λ u is.
    rw c.deref-2.ensures.value
    (c.in_ok-dates.ensures.dates u (number-below c.args.committed.now c.above.result u c.above.ensures (subst (λ C. is_among C u ≡ true) (sym c.requires.numbers) is)) (c.requires.apart u is)) in
    tested c.args.events.now (numbers c.args.committed.now) c.deref-2.result.now c.args.order.now c.each_after.result c.requires.numbers c.in_ok-there.ensures.each
    (subst (λ (them : List Committed). HasAll (numbers them) c.args.order.now) c.as_slice.ensures c.in_ok-all_there.ensures.all) dated
    c.each_after.ensures.kept c.each_after.ensures.refused
