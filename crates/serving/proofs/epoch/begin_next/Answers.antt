use Rattle.std.proofs.Common.{sym, subst}
use Rattle.std.specs.Prelude.{OnOk}
use Rattle.journal.specs.Journal.{Clean, durable, written}
use Rattle.serving.specs.EpochEnd.{LeavesNext}
use Rattle.serving.specs.NextEpoch.{IsNextFile}
use Rattle.serving.proofs.ClosedEpochs.{leaves-renewed}
use Rattle.serving.proofs.Results.{of-ok}
use Rattle.serving.proofs.epoch.begin_next.Goals as goal

pub returns-in-Some-clause-durable : goal.returns-in-Some-clause-durable
returns-in-Some-clause-durable g c =
    subst (λ w. OnOk c.extend.result.1 (Clean g.S.Store c.extend.result.0.journal
    → IsNextFile w c.args.store.prepared.items c.args.store.store c.extend.result.0.store c.extend.result.0.prepared.items (written g.S.Store c.args.store.journal) (durable g.S.Store c.extend.result.0.journal)))
    (sym c.in-Some.is) c.extend.ensures.durable

pub returns-in-Some-clause-crash : goal.returns-in-Some-clause-crash
returns-in-Some-clause-crash g c = subst (λ w. LeavesNext g.S.Store w c.args.store c.extend.result.0) (sym c.in-Some.is) c.extend.ensures.crash

pub returns-in-Ok-clause-durable : goal.returns-in-Ok-clause-durable
returns-in-Ok-clause-durable g c = λ now.
    subst (λ w. IsNextFile w c.args.store.prepared.items c.args.store.store c.renew-store.result.0.store c.renew-store.result.0.prepared.items (written g.S.Store c.args.store.journal) (durable g.S.Store c.renew-store.result.0.journal))
    (sym c.in-None.is) (of-ok c.renew-store.result.1 c.in-Ok.field-0 c.in-Ok.is c.renew-store.ensures.store, of-ok c.renew-store.result.1 c.in-Ok.field-0 c.in-Ok.is c.renew-store.ensures.durable now)

pub returns-in-Ok-clause-crash : goal.returns-in-Ok-clause-crash
returns-in-Ok-clause-crash g c =
    subst (λ w. LeavesNext g.S.Store w c.args.store c.renew-store.result.0) (sym c.in-None.is) (leaves-renewed g.S.Store c.args.store c.renew-store.result.0 c.renew-store.ensures.crash)

pub returns-in-Err-clause-crash : goal.returns-in-Err-clause-crash
returns-in-Err-clause-crash g c =
    subst (λ w. LeavesNext g.S.Store w c.args.store c.renew-store.result.0) (sym c.in-None.is) (leaves-renewed g.S.Store c.args.store c.renew-store.result.0 c.renew-store.ensures.crash)
