use Rattle.std.proofs.Common.{◌∙◌, ap, subst}
use Rattle.std.proofs.lemmas.Result.{on_ok_weaker}
use Rattle.store_laws.specs.Stored.{Stored}
use Rattle.journal.specs.Contents.{Contents}
use Rattle.serving.specs.Requests.{LetsGo}
use Rattle.serving.proofs.ClosedEpochs.{closed-left, closed-written, left-closed, left-written}
use Rattle.serving.proofs.epoch.close_epoch.Goals as goal

pub returns-in_err-abort_unless-clause-crash : goal.returns-in_err-abort_unless-clause-crash
returns-in_err-abort_unless-clause-crash g c = left-written g.S.Store c.args.store.now c.abort_unless.new.store (g.A.Archive.kept c.args.archive.now) c.in_err-abort_unless.ensures.crash

pub returns-clause-store : goal.returns-clause-store
returns-clause-store g c =
    on_ok_weaker c.archive_epoch.result (λ lets. subst (λ (s : Stored). LetsGo s c.archive_epoch.new.store.store) c.in_ok-abort_unless.ensures.store lets) c.archive_epoch.ensures.lets_go

pub returns-clause-written : goal.returns-clause-written
returns-clause-written g c =
    on_ok_weaker c.archive_epoch.result (λ same now. same now ∙ closed-written g.S.Store c.args.goes c.args.store.now c.abort_unless.new.store c.in_ok-abort_unless.ensures.store c.in_ok-abort_unless.ensures.written (c.archive_epoch.ensures.clean now))
    c.archive_epoch.ensures.written

pub returns-clause-crash : goal.returns-clause-crash
returns-clause-crash g c =
    left-closed g.S.Store c.args.store.now c.abort_unless.new.store c.archive_epoch.new.store (g.A.Archive.kept c.args.archive.now) (g.A.Archive.kept c.archive_epoch.new.archive) c.in_ok-abort_unless.ensures.clean
    c.in_ok-abort_unless.ensures.written c.in_ok-abort_unless.ensures.crash c.archive_epoch.ensures.crash

pub returns-clause-left : goal.returns-clause-left
returns-clause-left g c =
    closed-left g.S.Store c.args.goes c.args.store.now c.abort_unless.new.store c.archive_epoch.new.store c.in_ok-abort_unless.ensures.store c.in_ok-abort_unless.ensures.life c.in_ok-abort_unless.ensures.sound c.in_ok-abort_unless.ensures.clean
    (λ now. (ap (λ (x : Contents). x.outcomes) (c.in_ok-abort_unless.ensures.written now), ap (λ (x : Contents). x.prepared) (c.in_ok-abort_unless.ensures.written now))) c.in_ok-abort_unless.ensures.crash c.archive_epoch.ensures.left
