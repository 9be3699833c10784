-- What was asked so far is answered, and the epochs so far are kept.
use Rattle.std.proofs.Common.{◌≡◌, ◌<◌, length, None}
use Rattle.outputs.specs.Gathered.{taken_by, under}
use Rattle.serving.specs.Acknowledged.{TellsSafely}
use Rattle.serving.specs.Epochs.{LeavesEpochs, WritesEpochs}
use Rattle.serving.proofs.server.Server.run.Given as goal

abbrev pub invariant-loop-turn : goal.invariant-loop-turn
invariant-loop-turn g l = record {
  told : TellsSafely g.S.Store l.fn.self.session (g.R.Read.remaining l.fn.input) (taken_by g.W.Out.taken l.fn.client.out) l.server (g.R.Read.remaining l.input) (taken_by g.W.Out.taken l.client.out);
  writes : WritesEpochs g.S.Store l.fn.self.session.store l.server.session.store (g.A.Archive.kept l.fn.archive) (g.A.Archive.kept l.archive);
  crash : LeavesEpochs g.S.Store l.fn.self.session.store l.server.session.store (g.A.Archive.kept l.fn.archive) (g.A.Archive.kept l.archive);
  none : l.server.end ≡ None;
  out_takes : g.W.Out.fault (under l.client.out) ≡ None;
  room : 0 < length l.buffer;
}
