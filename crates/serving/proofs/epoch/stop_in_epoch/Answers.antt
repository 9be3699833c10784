use Rattle.std.proofs.Common.{false, ap}
use Rattle.journal.specs.Contents.{Contents}
use Rattle.serving.proofs.ClosedEpochs.{closed-left, goes-on, left-settled, writes-settled}
use Rattle.serving.proofs.MoreEvents.{outcomes-more}
use Rattle.serving.proofs.epoch.stop_in_epoch.Goals as goal

pub returns-in_err-abort_unprepared-clause-crash : goal.returns-in_err-abort_unprepared-clause-crash
returns-in_err-abort_unprepared-clause-crash g c = outcomes-more g.S.Store c.args.store.now c.abort_unprepared.new.self c.in_err-abort_unprepared.ensures.crash

pub returns-clause-goes_on : goal.returns-clause-goes_on
returns-clause-goes_on g c =
    goes-on g.S.Store c.args.store.now c.abort_unprepared.new.self c.settle.new.self c.settle.result c.in_ok-abort_unprepared.ensures.store c.in_ok-abort_unprepared.ensures.prepared c.in_ok-abort_unprepared.ensures.life c.in_ok-abort_unprepared.ensures.written
    c.settle.ensures.store c.settle.ensures.prepared c.settle.ensures.life c.settle.ensures.clean c.settle.ensures.durable

pub returns-clause-writes : goal.returns-clause-writes
returns-clause-writes g c = writes-settled g.S.Store c.args.store.now c.abort_unprepared.new.self c.settle.new.self c.settle.result c.in_ok-abort_unprepared.ensures.written c.settle.ensures.clean c.settle.ensures.written

pub returns-clause-left : goal.returns-clause-left
returns-clause-left g c =
    closed-left g.S.Store false c.args.store.now c.abort_unprepared.new.self c.settle.new.self c.in_ok-abort_unprepared.ensures.store c.in_ok-abort_unprepared.ensures.life c.in_ok-abort_unprepared.ensures.sound c.in_ok-abort_unprepared.ensures.clean
    (λ now. (ap (λ (x : Contents). x.outcomes) (c.in_ok-abort_unprepared.ensures.written now), ap (λ (x : Contents). x.prepared) (c.in_ok-abort_unprepared.ensures.written now))) c.in_ok-abort_unprepared.ensures.crash c.settle.ensures.crash

pub returns-clause-crash : goal.returns-clause-crash
returns-clause-crash g c =
    left-settled g.S.Store c.args.store.now c.abort_unprepared.new.self c.settle.new.self c.in_ok-abort_unprepared.ensures.clean c.in_ok-abort_unprepared.ensures.written c.in_ok-abort_unprepared.ensures.crash c.settle.ensures.crash
