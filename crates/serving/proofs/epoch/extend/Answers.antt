use Rattle.serving.proofs.ClosedEpochs.{leaves-grown}
use Rattle.serving.proofs.epoch.extend.Goals as goal

pub returns-clause-crash : goal.returns-clause-crash
returns-clause-crash g c =
    leaves-grown g.S.Store c.args.extension _ _ c.args.store c.extend-store.result.0 c.deref.ensures.value c.deref-2.ensures.value c.extend-store.ensures.crash

pub returns-in-Ok-clause-crash : goal.returns-in-Ok-clause-crash
returns-in-Ok-clause-crash g c =
    leaves-grown g.S.Store c.args.extension _ _ c.args.store c.extend-store.result.0 c.deref.ensures.value c.deref-2.ensures.value c.extend-store.ensures.crash
