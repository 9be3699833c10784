use Rattle.std.proofs.Common.{◌∙◌, Some, ap, sym}
use Rattle.std.proofs.lemmas.Option.{slice_get-get_or}
use Rattle.history_audit.proofs.Ordered.{least-kept, least-less}
use Rattle.history_audit.proofs.order_tests.least_unmarked.Goals.{then-not-there-committed, else-not-there-committed}
use Rattle.history_audit.proofs.order_tests.least_unmarked.Goals as goal

pub loop-committed-preserved : goal.loop-committed-preserved
loop-committed-preserved c =
    let these = c.args.these.now in
    let there = c.args.there.now in
    let n = c.loop-committed.committed-index in
    let item = c.committed-item.result in
    let here = slice_get-get_or these n item c.loop-committed-test.true ∙ ap Some (sym c.committed-item.is) in
    elim c.if-not-there-committed.branch [
      | then-not-there-committed w ↦
          least-less these there n item here c.loop-committed.least c.if-not-there-committed.least w.if-not-there-committed.true (w.least-is ∙ w.lesser-least.ensures) c.loop-committed.invariant
      | else-not-there-committed w ↦ rw w.least-is (least-kept these there n item here c.loop-committed.least w.if-not-there-committed.false c.loop-committed.invariant)
    ]
