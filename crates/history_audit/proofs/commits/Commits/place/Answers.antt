use Rattle.std.proofs.Common.{◌≡◌, List, false, subst}
use Rattle.serial_order.specs.Operations.{is_among}
use Rattle.history_audit.specs.Commits.{numbers}
use Rattle.history_judge.specs.declared.committed.Committed.{Committed}
use Rattle.history_audit.proofs.Ordered.{no-place}
use Rattle.history_audit.proofs.commits.Commits.place.Goals as goal

pub returns-in-None : goal.returns-in-None
returns-in-None c =
    let tested = rw c.in-None.is at c.get.ensures.lookup.0 in
    subst (λ (them : List Committed). is_among (numbers them) c.args.t ≡ false) c.self.view_is
    (no-place (numbers c.self.inside.list.items) c.self.inside.places.items c.deref.result.now c.args.t c.self.invariant.at c.deref.ensures.value tested)
