use Rattle.std.proofs.lemmas.Result.{on_err_weaker, on_ok_weaker}
use Rattle.serving.proofs.LaterEpochs.{left-stays, left-more, writes-stays, writes-one}
use Rattle.serving.proofs.server.Server.take_turn.Goals as goal

pub returns-in-Ok-true-clause-serves : goal.returns-in-Ok-true-clause-serves
returns-in-Ok-true-clause-serves g c =
    on_ok_weaker c.next_epoch.result.1 (λ serves began given taken so_far.
    serves began given taken (g.R.Read.remaining c.serve_group.new.input) (c.in-Ok-true.ensures.serves began given taken so_far)) c.next_epoch.ensures.serves

pub returns-in-Ok-true-clause-stops : goal.returns-in-Ok-true-clause-stops
returns-in-Ok-true-clause-stops g c =
    on_err_weaker c.next_epoch.result.1 (λ stops began given taken so_far.
    stops began given taken (g.R.Read.remaining c.serve_group.new.input) (c.in-Ok-true.ensures.serves began given taken so_far)) c.next_epoch.ensures.stops

pub returns-in-Ok-true-clause-writes : goal.returns-in-Ok-true-clause-writes
returns-in-Ok-true-clause-writes g c =
    on_ok_weaker c.next_epoch.result.1 (writes-stays c.args.self.session c.serve_group.new.self.session c.next_epoch.result.0.session.store (g.A.Archive.kept c.args.archive.now) (g.A.Archive.kept c.next_epoch.new.archive)
    c.in-Ok-true.ensures.stays_in_epoch c.next_epoch.ensures.clean) c.next_epoch.ensures.writes

pub returns-in-Ok-true-clause-crash : goal.returns-in-Ok-true-clause-crash
returns-in-Ok-true-clause-crash g c =
    left-stays c.args.self.session c.serve_group.new.self.session c.next_epoch.result.0.session.store (g.A.Archive.kept c.args.archive.now) (g.A.Archive.kept c.next_epoch.new.archive) c.in-Ok-true.ensures.stays_in_epoch
    c.next_epoch.ensures.crash

pub returns-in-Ok-false-clause-writes : goal.returns-in-Ok-false-clause-writes
returns-in-Ok-false-clause-writes g c =
    writes-one g.S.Store c.args.self.session.store c.serve_group.new.self.session.store (g.A.Archive.kept c.args.archive.now) c.in-Ok-false.ensures.stays_in_epoch.follows

pub returns-in-Ok-false-clause-crash : goal.returns-in-Ok-false-clause-crash
returns-in-Ok-false-clause-crash g c = left-more g.S.Store c.args.self.session.store c.serve_group.new.self.session.store (g.A.Archive.kept c.args.archive.now) c.serve_group.ensures.crash

pub returns-in-Err-clause-crash : goal.returns-in-Err-clause-crash
returns-in-Err-clause-crash g c = left-more g.S.Store c.args.self.session.store c.serve_group.new.self.session.store (g.A.Archive.kept c.args.archive.now) c.serve_group.ensures.crash
