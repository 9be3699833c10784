use Rattle.std.proofs.Common.{get_or}
use Rattle.std.proofs.lemmas.Option.{slice_get-get_or}
use Rattle.history_audit.proofs.Ordered.{marked-next}
use Rattle.history_audit.proofs.order_tests.advanced.Goals as goal

pub front-preserved : goal.front-preserved
front-preserved c =
    let these = c.args.these.now in
    let item = get_or these c.front.front c.index-these-front.result in
    marked-next these c.args.there.now c.front.front item (slice_get-get_or these c.front.front c.index-these-front.result c.front-test.true) c.front.invariant c.if-there-these.true
