use Rattle.std.proofs.Common.{length}
use Rattle.history_audit.specs.Commits.{numbers}
use Rattle.history_audit.proofs.Ordered.{least-absent, missing, number-below}
use Rattle.history_audit.proofs.order_tests.all_there.Goals as goal

pub returns-in-Some-clause-refused : goal.returns-in-Some-clause-refused
returns-in-Some-clause-refused c = λ H same.
    missing H (numbers c.args.these.now) c.args.order.now c.in-Some.t same c.requires.each
    (least-absent (numbers c.args.these.now) c.args.order.now c.args.there.now c.in-Some.t (λ u is. number-below c.args.these.now (length c.args.there.now) u c.requires.above is)
    c.requires.marked c.in-Some.ensures)
