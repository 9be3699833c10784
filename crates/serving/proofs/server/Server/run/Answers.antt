use Rattle.std.proofs.Common.{refl, rules}
use Rattle.outputs.specs.Gathered.{taken_by}
use Rattle.serving.proofs.Acknowledgements.{stops-here, tells-none}
use Rattle.serving.proofs.LaterEpochs.{left-nowhere, left-then, writes-nowhere, writes-on}
use Rattle.serving.proofs.Results.{of-err, of-ok}
use Rattle.serving.proofs.server.Server.run.Goals as goal

pub loop-turn-init : goal.loop-turn-init
loop-turn-init g c = record {
  told = tells-none (g.R.Read.remaining c.args.input.now) (taken_by g.W.Out.taken c.args.client.now.out) c.args.self c.requires.sound c.requires.fresh
      (g.met.S.Store.settled c.args.self.session.store.journal.store);
  writes = writes-nowhere g.S.Store c.args.self.session.store c.args.self.session.store (g.A.Archive.kept c.args.archive.now) refl;
  crash = left-nowhere g.S.Store c.args.self.session.store c.args.self.session.store (g.A.Archive.kept c.args.archive.now) refl;
  none = c.requires.fresh.end;
  out_takes = c.requires.out_takes;
  room = c.requires.room;
}

pub loop-turn-preserved : goal.loop-turn-preserved
loop-turn-preserved g c = record {
  told = of-ok c.take_turn-next.result.1 c.in-Ok-true.field-0 c.in-Ok-true.is c.take_turn-next.ensures.serves c.args.self.session (g.R.Read.remaining c.args.input.now) (taken_by g.W.Out.taken c.args.client.now.out) c.loop-turn.invariant.told;
  writes = writes-on g.S.Store c.args.self.session.store c.loop-turn.server.session.store c.take_turn-next.result.0.session.store (g.A.Archive.kept c.args.archive.now) (g.A.Archive.kept c.loop-turn.archive)
      (g.A.Archive.kept c.take_turn-next.new.archive) c.take_turn-next.ensures.clean c.loop-turn.invariant.writes (of-ok c.take_turn-next.result.1 c.in-Ok-true.field-0 c.in-Ok-true.is c.take_turn-next.ensures.writes);
  crash = left-then g.S.Store c.args.self.session.store c.loop-turn.server.session.store c.take_turn-next.result.0.session.store (g.A.Archive.kept c.args.archive.now) (g.A.Archive.kept c.loop-turn.archive)
      (g.A.Archive.kept c.take_turn-next.new.archive) c.loop-turn.invariant.told.tells.served.lasts.clean c.loop-turn.invariant.writes c.loop-turn.invariant.crash c.take_turn-next.ensures.crash;
  none = search rules;
  out_takes = search rules;
  room = search rules;
}

pub returns-in-Ok-false-clause-archives : goal.returns-in-Ok-false-clause-archives
returns-in-Ok-false-clause-archives g c =
    writes-on g.S.Store c.args.self.session.store c.loop-turn.server.session.store c.take_turn-next.result.0.session.store (g.A.Archive.kept c.args.archive.now) (g.A.Archive.kept c.loop-turn.archive)
    (g.A.Archive.kept c.take_turn-next.new.archive) c.take_turn-next.ensures.clean c.loop-turn.invariant.writes (of-ok c.take_turn-next.result.1 c.in-Ok-false.field-0 c.in-Ok-false.is c.take_turn-next.ensures.writes)

pub returns-in-Ok-false-clause-crash : goal.returns-in-Ok-false-clause-crash
returns-in-Ok-false-clause-crash g c =
    left-then g.S.Store c.args.self.session.store c.loop-turn.server.session.store c.take_turn-next.result.0.session.store (g.A.Archive.kept c.args.archive.now) (g.A.Archive.kept c.loop-turn.archive)
    (g.A.Archive.kept c.take_turn-next.new.archive) c.loop-turn.invariant.told.tells.served.lasts.clean c.loop-turn.invariant.writes c.loop-turn.invariant.crash c.take_turn-next.ensures.crash

pub returns-in-Ok-false-clause-told : goal.returns-in-Ok-false-clause-told
returns-in-Ok-false-clause-told g c =
    (of-ok c.take_turn-next.result.1 c.in-Ok-false.field-0 c.in-Ok-false.is c.take_turn-next.ensures.serves c.args.self.session (g.R.Read.remaining c.args.input.now) (taken_by g.W.Out.taken c.args.client.now.out)
    c.loop-turn.invariant.told).tells

pub returns-in-Ok-false-clause-acknowledged : goal.returns-in-Ok-false-clause-acknowledged
returns-in-Ok-false-clause-acknowledged g c =
    of-ok c.take_turn-next.result.1 c.in-Ok-false.field-0 c.in-Ok-false.is c.take_turn-next.ensures.serves c.args.self.session (g.R.Read.remaining c.args.input.now) (taken_by g.W.Out.taken c.args.client.now.out)
    c.loop-turn.invariant.told

pub returns-in-Err-clause-stops : goal.returns-in-Err-clause-stops
returns-in-Err-clause-stops g c =
    (of-err c.take_turn-next.result.1 c.in-Err.fault c.in-Err.is c.take_turn-next.ensures.stops c.args.self.session (g.R.Read.remaining c.args.input.now) (taken_by g.W.Out.taken c.args.client.now.out)
    c.loop-turn.invariant.told).stops

pub returns-in-Err-clause-acknowledged : goal.returns-in-Err-clause-acknowledged
returns-in-Err-clause-acknowledged g c =
    of-err c.take_turn-next.result.1 c.in-Err.fault c.in-Err.is c.take_turn-next.ensures.stops c.args.self.session (g.R.Read.remaining c.args.input.now) (taken_by g.W.Out.taken c.args.client.now.out)
    c.loop-turn.invariant.told

pub returns-in-Err-clause-crash : goal.returns-in-Err-clause-crash
returns-in-Err-clause-crash g c =
    left-then g.S.Store c.args.self.session.store c.loop-turn.server.session.store c.take_turn-next.result.0.session.store (g.A.Archive.kept c.args.archive.now) (g.A.Archive.kept c.loop-turn.archive)
    (g.A.Archive.kept c.take_turn-next.new.archive) c.loop-turn.invariant.told.tells.served.lasts.clean c.loop-turn.invariant.writes c.loop-turn.invariant.crash c.take_turn-next.ensures.crash

pub returns-clause-stops : goal.returns-clause-stops
returns-clause-stops g c = (stops-here c.loop-turn.invariant.told).stops

pub returns-clause-acknowledged : goal.returns-clause-acknowledged
returns-clause-acknowledged g c = stops-here c.loop-turn.invariant.told
