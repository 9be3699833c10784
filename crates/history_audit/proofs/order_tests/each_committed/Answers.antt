use Rattle.std.proofs.Common.{◌<◌, length, get_or, true, false, subst, sym, ◌∙◌, arith}
use Rattle.std.proofs.lemmas.List.{get_or_read, length-set}
use Rattle.std.proofs.lemmas.Option.{slice_get-get_or}
use Rattle.std.specs.List.{AllByRecursion}
use Rattle.history_audit.specs.Commits.{numbers}
use Rattle.history_judge.specs.declared.committed.Committed.{Committed}
use Rattle.history_audit.proofs.Ordered.{committed-more, has-place, marked-more, number-below, twice}
use Rattle.history_audit.proofs.order_tests.each_committed.Goals as goal

pub index-requires : goal.index-requires
index-requires c =
    let t = get_or c.args.order.now c.loop-t.t-index 0 in
    let there = c.loop-t.there.items in
    let low = number-below c.args.committed.now (length there) t c.loop-t.invariant.above (has-place (numbers c.args.committed.now) t c.place.result c.place.ensures c.if-is_none.ensures) in
    omega (arith, low, c.loop-t.there.ok.0)

pub returns-then-index-clause-refused : goal.returns-then-index-clause-refused
returns-then-index-clause-refused c = λ H same.
    let t = get_or c.args.order.now c.loop-t.t-index 0 in
    let there = c.loop-t.there.items in
    let low = number-below c.args.committed.now (length there) t c.loop-t.invariant.above (has-place (numbers c.args.committed.now) t c.place.result c.place.ensures c.if-is_none.ensures) in
    twice H (numbers c.args.committed.now) c.args.order.now same c.loop-t.t-index t (slice_get-get_or c.args.order.now c.loop-t.t-index 0 c.loop-t-test.true) c.loop-t.invariant.each
    (sym (c.loop-t.invariant.marked t low) ∙ sym (get_or_read there t c.index.result.now low c.index.ensures false) ∙ c.if-index.true)

pub index_mut-requires : goal.index_mut-requires
index_mut-requires c =
    let t = get_or c.args.order.now c.loop-t.t-index 0 in
    let there = c.loop-t.there.items in
    let low = number-below c.args.committed.now (length there) t c.loop-t.invariant.above (has-place (numbers c.args.committed.now) t c.place.result c.place.ensures c.if-is_none.ensures) in
    omega (arith, low, c.loop-t.there.ok.0)

pub loop-t-preserved : goal.loop-t-preserved
loop-t-preserved c =
    let t = get_or c.args.order.now c.loop-t.t-index 0 in
    let there = c.loop-t.there.items in
    let among = has-place (numbers c.args.committed.now) t c.place.result c.place.ensures c.if-is_none.ensures in
    let low = number-below c.args.committed.now (length there) t c.loop-t.invariant.above among in
    let here = slice_get-get_or c.args.order.now c.loop-t.t-index 0 c.loop-t-test.true in
    record {
      each = committed-more (numbers c.args.committed.now) c.args.order.now c.loop-t.t-index t c.loop-t.invariant.each here among
          (sym (c.loop-t.invariant.marked t low) ∙ sym (get_or_read there t c.index.result.now low c.index.ensures false) ∙ c.if-index.false);
      marked = marked-more c.args.order.now there c.loop-t.t-index t c.loop-t.invariant.marked here;
      above = subst (λ n. AllByRecursion (λ (d : Committed). d.number < n) c.args.committed.now) (sym (length-set there t true)) c.loop-t.invariant.above;
    }
