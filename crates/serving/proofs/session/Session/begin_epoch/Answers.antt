use Rattle.std.proofs.Common.{sym, subst}
use Rattle.std.specs.Prelude.{OnOk}
use Rattle.durable_store.specs.declared.durable.Durable.{Durable}
use Rattle.serving.specs.EpochEnd.{LeavesEnd}
use Rattle.serving.specs.Epochs.{LeavesEpochs, WritesEpochs}
use Rattle.serving.proofs.LaterEpochs.{left-nowhere}
use Rattle.serving.proofs.session.Session.begin_epoch.Goals as goal

pub returns-in-Err-clause-crash : goal.returns-in-Err-clause-crash
returns-in-Err-clause-crash g c = left-nowhere g.S.Store c.args.self.store c.begun-session.result.store (g.A.Archive.kept c.args.archive.now) c.begun-session.ensures.store

pub returns-clause-writes : goal.returns-clause-writes
returns-clause-writes g c =
    subst (λ (d : Durable g.row.S.Denot). OnOk c.end_epoch-store.result.1 (WritesEpochs g.S.Store c.args.self.store d (g.A.Archive.kept c.args.archive.now) (g.A.Archive.kept c.end_epoch-store.new.archive))) (sym c.begun.ensures.store) c.end_epoch-store.ensures.writes

pub returns-clause-left : goal.returns-clause-left
returns-clause-left g c =
    subst (λ goes. LeavesEnd g.S.Store goes c.args.self.waiting c.args.self.store c.begun.result.store) c.is_strong-goes.ensures
    (subst (λ (d : Durable g.row.S.Denot). LeavesEnd g.S.Store c.is_strong-goes.result c.args.self.waiting c.args.self.store d) (sym c.begun.ensures.store) c.end_epoch-store.ensures.left)

pub returns-clause-crash : goal.returns-clause-crash
returns-clause-crash g c =
    subst (λ (d : Durable g.row.S.Denot). LeavesEpochs g.S.Store c.args.self.store d (g.A.Archive.kept c.args.archive.now) (g.A.Archive.kept c.end_epoch-store.new.archive)) (sym c.begun.ensures.store) c.end_epoch-store.ensures.crash
