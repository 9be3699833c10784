use Rattle.std.proofs.Common.{◌≡◌, sym, subst}
use Rattle.serving.specs.Epochs.{closed_by}
use Rattle.serving.proofs.ClosedEpochs.{stays-closed, writes-none}
use Rattle.serving.proofs.epoch.abort_unless.Goals as goal

pub returns-then-goes-clause-store : goal.returns-then-goes-clause-store
returns-then-goes-clause-store g c =
    subst (λ b. c.args.store.now.store ≡ closed_by b c.args.store.now.prepared.items c.args.store.now.store) (sym c.if-goes.true) (stays-closed c.args.store.now.prepared.items c.args.store.now.store)

pub returns-then-goes-clause-written : goal.returns-then-goes-clause-written
returns-then-goes-clause-written g c = writes-none g.S.Store c.args.store.now
