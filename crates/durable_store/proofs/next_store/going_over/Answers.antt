use Rattle.std.proofs.Common.{◌<◌, subst, sym}
use Rattle.std.proofs.lemmas.Result.{IfOk-weaker}
use Rattle.object_trait.specs.Orders.{Pairs}
use Rattle.store.proofs.CarriedAll.{open-ascend}
use Rattle.durable_store.specs.NextStore.{GoOver}
use Rattle.durable_store.proofs.HeldNumbers.{ascends}
use Rattle.durable_store.proofs.next_store.going_over.Goals as goal

pub returns-then-strong-clause-going : goal.returns-then-strong-clause-going
returns-then-strong-clause-going c =
    IfOk-weaker c.open_ones.result _ _ (λ those are. subst (λ b. GoOver b c.args.store.now.history c.args.prepared.now those.items) (sym c.if-strong.true) are) c.open_ones.ensures

pub returns-then-strong-clause-ascend : goal.returns-then-strong-clause-ascend
returns-then-strong-clause-ascend c = IfOk-weaker c.open_ones.result _ _ (λ those are. subst (Pairs (λ a b. a < b)) (sym are) (open-ascend c.args.store.now.history)) c.open_ones.ensures

pub returns-clause-going : goal.returns-clause-going
returns-clause-going c =
    IfOk-weaker c.in_order.result _ _ (λ those are. subst (λ b. GoOver b c.args.store.now.history c.args.prepared.now those.items) (sym c.if-strong.false) are) c.in_order.ensures

pub returns-clause-ascend : goal.returns-clause-ascend
returns-clause-ascend c = IfOk-weaker c.in_order.result _ _ (λ those are. ascends those.items are.ascend) c.in_order.ensures
