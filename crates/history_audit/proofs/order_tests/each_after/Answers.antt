use Rattle.std.proofs.Common.{◌≡◌, ◌<◌, ℕ, List, Bool, length, get_or, take, true, subst, sym, ap, arith}
use borrow.Author.Count.{below_more}
use Rattle.std.proofs.lemmas.List.{length-set, length-take, take-map}
use Rattle.std.proofs.lemmas.Option.{slice_get-get_or}
use Rattle.std.specs.List.{AllByRecursion}
use Rattle.type_table.proofs.Elements.{each-take}
use Rattle.serial_order.specs.Operations.{is_among}
use Rattle.history_audit.specs.Commits.{numbers}
use Rattle.history_audit.specs.OrderTests.{AllMarked, IsLeastUnmarked, KeepsDatesAt}
use Rattle.history_judge.specs.declared.committed.Committed.{Committed}
use Rattle.history_audit.proofs.Ordered.{dates-front, dates-kept, marked-more, number-below, out-of-order}
use Rattle.history_audit.proofs.order_tests.each_after.Goals.{then-date-front+in_default, else-date-front}
use Rattle.history_audit.proofs.order_tests.each_after.Goals as goal

pub bounds-dates-u : goal.bounds-dates-u
bounds-dates-u c =
    let u = get_or c.args.order.now c.loop-u.u-index 0 in
    number-below c.args.committed.now (length c.args.dates.now) u c.requires.above (c.requires.each.each c.loop-u.u-index u (slice_get-get_or c.args.order.now c.loop-u.u-index 0 c.loop-u-test.true))

pub slice_bounds-least_unmarked-end : goal.slice_bounds-least_unmarked-end
slice_bounds-least_unmarked-end c =
    let u = get_or c.args.order.now c.loop-u.u-index 0 in
    let low = c.requires.dates u (c.requires.each.each c.loop-u.u-index u (slice_get-get_or c.args.order.now c.loop-u.u-index 0 c.loop-u-test.true)) in
    let many = ap length c.as_slice-all.ensures in
    let taken = length-take (get_or c.args.dates.now u 0) c.as_slice-all.result.now in
    omega (arith, low, many, taken)

pub least_unmarked-requires : goal.least_unmarked-requires
least_unmarked-requires c =
    let u = get_or c.args.order.now c.loop-u.u-index 0 in
    rw (c.deref.ensures.value, c.as_slice-all.ensures)
    (each-take (λ (d : Committed). d.number < length c.loop-u.there.items) (get_or c.args.dates.now u 0) c.args.committed.now c.loop-u.invariant.above)

pub returns-in-Some-clause-refused : goal.returns-in-Some-clause-refused
returns-in-Some-clause-refused c = λ H same dates.
    let u = get_or c.args.order.now c.loop-u.u-index 0 in
    let date = get_or c.args.dates.now u 0 in
    let least : IsLeastUnmarked (take date (numbers c.args.committed.now)) c.loop-u.there.items c.in-Some.t =
    subst (λ (ts : List ℕ). IsLeastUnmarked ts c.loop-u.there.items c.in-Some.t) (sym (take-map (λ (d : Committed). d.number) date c.args.committed.now))
    (subst (λ (bs : List Bool). IsLeastUnmarked (numbers (take date c.args.committed.now)) bs c.in-Some.t) c.deref.ensures.value
    (subst (λ (them : List Committed). IsLeastUnmarked (numbers (take date them)) c.deref.result.now c.in-Some.t) c.as_slice-all.ensures c.in-Some.ensures)) in
    out-of-order H (numbers c.args.committed.now) c.args.dates.now c.args.order.now c.loop-u.there.items c.loop-u.u-index c.in-Some.t u same c.requires.each c.requires.all dates
    (slice_get-get_or c.args.order.now c.loop-u.u-index 0 c.loop-u-test.true) (λ v is. number-below c.args.committed.now (length c.loop-u.there.items) v c.loop-u.invariant.above is)
    c.loop-u.invariant.marked c.loop-u.invariant.kept least

pub index_mut-requires : goal.index_mut-requires
index_mut-requires c =
    let u = get_or c.args.order.now c.loop-u.u-index 0 in
    let low = number-below c.args.committed.now (length c.loop-u.there.items) u c.loop-u.invariant.above (c.requires.each.each c.loop-u.u-index u (slice_get-get_or c.args.order.now c.loop-u.u-index 0 c.loop-u-test.true)) in
    omega (arith, low, c.loop-u.there.ok.0)

pub advanced-front-requires-clause-above : goal.advanced-front-requires-clause-above
advanced-front-requires-clause-above c =
    let u = get_or c.args.order.now c.loop-u.u-index 0 in
    rw (c.deref-in-loop-u.ensures.value, c.as_slice-all.ensures, length-set c.loop-u.there.items u true) c.loop-u.invariant.above

pub loop-u-preserved : goal.loop-u-preserved
loop-u-preserved c =
    let u = get_or c.args.order.now c.loop-u.u-index 0 in
    let there = c.loop-u.there.items in
    let here = slice_get-get_or c.args.order.now c.loop-u.u-index 0 c.loop-u-test.true in
    let below : (v : ℕ) → is_among (numbers c.args.committed.now) v ≡ true → v < length there =
    λ v is. number-below c.args.committed.now (length there) v c.loop-u.invariant.above is in
    record {
      marked = marked-more c.args.order.now there c.loop-u.u-index u c.loop-u.invariant.marked here;
      front =
          subst (λ (bs : List Bool). AllMarked (take c.advanced-front.result (numbers c.args.committed.now)) bs) c.deref-in-loop-u.ensures.value
          (subst (λ (them : List Committed). AllMarked (take c.advanced-front.result (numbers them)) c.deref-in-loop-u.result.now) c.as_slice-all.ensures c.advanced-front.ensures);
      kept = below_more (KeepsDatesAt (numbers c.args.committed.now) c.args.dates.now c.args.order.now) c.loop-u.u-index c.loop-u.invariant.kept
          (elim c.if-date-front.branch [
            | then-date-front+in_default w ↦
                let date = get_or c.args.dates.now u 0 in
                let all : AllMarked (take date (numbers c.args.committed.now)) there =
                subst (λ (ts : List ℕ). AllMarked ts there) (sym (take-map (λ (d : Committed). d.number) date c.args.committed.now))
                (subst (λ (bs : List Bool). AllMarked (numbers (take date c.args.committed.now)) bs) w.deref.ensures.value
                (subst (λ (them : List Committed). AllMarked (numbers (take date them)) w.deref.result.now) c.as_slice-all.ensures w.in_default.ensures)) in
                dates-kept (numbers c.args.committed.now) c.args.dates.now c.args.order.now there c.loop-u.u-index u here below c.loop-u.invariant.marked all
            | else-date-front w ↦ dates-front (numbers c.args.committed.now) c.args.dates.now c.args.order.now there c.loop-u.u-index u c.loop-u.front here below c.loop-u.invariant.marked w.if-date-front.false c.loop-u.invariant.front
          ]);
      above = subst (λ n. AllByRecursion (λ (d : Committed). d.number < n) c.args.committed.now) (sym (length-set there u true)) c.loop-u.invariant.above;
    }
