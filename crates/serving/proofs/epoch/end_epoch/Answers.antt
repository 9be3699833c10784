use Rattle.std.proofs.Common.{◌∙◌, ap}
use Rattle.std.proofs.lemmas.Result.{on_ok_weaker}
use Rattle.journal.specs.Contents.{Contents}
use Rattle.serving.proofs.ClosedEpochs.{closed-end, end-left}
use Rattle.serving.proofs.LaterEpochs.{ends-epoch, left-renewed, shown-durable, writes-epoch}
use Rattle.serving.proofs.NextEpochs.{late-as}
use Rattle.serving.proofs.Results.{if-ok}
use Rattle.serving.proofs.epoch.end_epoch.Goals as goal

pub returns-in-Ok-clause-late : goal.returns-in-Ok-clause-late
returns-in-Ok-clause-late g c = if-ok c.begin_next.result.1 (λ late is. is ∙ late-as c.args.goes c.args.waiting c.args.store.prepared.items c.args.store.store c.close_epoch.new.store.store c.in-Ok.ensures.store) c.begin_next.ensures.late

pub returns-in-Ok-clause-settled : goal.returns-in-Ok-clause-settled
returns-in-Ok-clause-settled g c = on_ok_weaker c.begin_next.result.1 (λ shows. shown-durable g.S.Store c.begin_next.result.0 shows) c.begin_next.ensures.shows

pub returns-in-Ok-clause-ends : goal.returns-in-Ok-clause-ends
returns-in-Ok-clause-ends g c =
    ends-epoch c.args.goes c.args.waiting c.args.store c.close_epoch.new.store c.begin_next.result.0 c.begin_next.result.1 c.in-Ok.ensures.sound c.in-Ok.ensures.store c.in-Ok.ensures.prepared c.in-Ok.ensures.life c.begin_next.ensures.clean c.in-Ok.ensures.written
    c.begin_next.ensures.store c.begin_next.ensures.sound c.begin_next.ensures.shows c.begin_next.ensures.last c.begin_next.ensures.durable

pub returns-in-Ok-clause-writes : goal.returns-in-Ok-clause-writes
returns-in-Ok-clause-writes g c =
    writes-epoch c.args.goes c.args.waiting c.args.store c.close_epoch.new.store c.begin_next.result.0 (g.A.Archive.kept c.args.archive.now) (g.A.Archive.kept c.close_epoch.new.archive) c.begin_next.result.1 c.in-Ok.ensures.sound
    c.begin_next.ensures.clean c.in-Ok.ensures.written c.in-Ok.ensures.keeps c.begin_next.ensures.shows c.begin_next.ensures.durable

pub returns-in-Ok-clause-crash : goal.returns-in-Ok-clause-crash
returns-in-Ok-clause-crash g c =
    left-renewed g.S.Store c.args.goes c.args.waiting c.args.store c.close_epoch.new.store c.begin_next.result.0 (g.A.Archive.kept c.args.archive.now) (g.A.Archive.kept c.close_epoch.new.archive) c.in-Ok.ensures.sound c.in-Ok.ensures.clean
    c.in-Ok.ensures.written c.in-Ok.ensures.keeps c.in-Ok.ensures.crash c.begin_next.ensures.crash

pub returns-in-Ok-clause-left : goal.returns-in-Ok-clause-left
returns-in-Ok-clause-left g c =
    end-left g.S.Store c.args.goes c.args.waiting c.args.store c.close_epoch.new.store c.begin_next.result.0 c.in-Ok.ensures.store c.in-Ok.ensures.prepared c.in-Ok.ensures.life c.in-Ok.ensures.sound c.in-Ok.ensures.clean
    (λ now. (ap (λ (x : Contents). x.outcomes) (c.in-Ok.ensures.written now), ap (λ (x : Contents). x.prepared) (c.in-Ok.ensures.written now))) c.in-Ok.ensures.left c.begin_next.ensures.crash

pub returns-in-Err-clause-left : goal.returns-in-Err-clause-left
returns-in-Err-clause-left g c = closed-end g.S.Store c.args.goes c.args.waiting c.args.store c.close_epoch.new.store c.in-Err.ensures.left
