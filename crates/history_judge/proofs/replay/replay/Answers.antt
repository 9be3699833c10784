use Rattle.std.proofs.Common.{map, length, refl}
use Rattle.std.proofs.lemmas.Option.{slice_get_read}
use Rattle.history_judge.proofs.Replayed.{replayed-at, replayed-none, there-at}
use Rattle.declared_types.specs.Declarations.{table_of}
use Rattle.history_judge.proofs.replay.replay.Goals as goal

pub loop-place-init : goal.loop-place-init
loop-place-init c = record { ready = c.requires.states; replayed = replayed-none (map (λ t. table_of t.now) c.args.types.now) c.args.states.now.items c.args.operations.now }

pub loop-place-preserved : goal.loop-place-preserved
loop-place-preserved c =
    let its = c.args.operations.now in
    let n = c.loop-place.place in
    let o = c.index-operations-place.result in
    let at = slice_get_read its (length its) n o refl c.loop-place-test.true c.index-operations-place.is in
    record {
      ready = c.replay_one-stop.ensures.inside;
      replayed = rw (c.replay_one-stop.ensures.states, c.replay_one-stop.ensures.stop)
          (replayed-at c.runs_along.ensures (map (λ t. table_of t.now) c.args.types.now) c.args.states.now.items its n o c.loop-place.states.items c.loop-place.stop
          c.requires.states c.loop-place.invariant.ready c.requires.operations at c.loop-place.invariant.replayed);
    }

pub replay_one-stop-requires-clause-operation : goal.replay_one-stop-requires-clause-operation
replay_one-stop-requires-clause-operation c =
    let its = c.args.operations.now in
    let n = c.loop-place.place in
    let o = c.index-operations-place.result in
    there-at (map (λ t. table_of t.now) c.args.types.now) its n o c.requires.operations (slice_get_read its (length its) n o refl c.loop-place-test.true c.index-operations-place.is)
