use Rattle.std.proofs.Common.{◌≡◌, ◌<◌, ◌≤◌, length, arith}
use Rattle.store_laws.specs.Stored.{objects}
use Rattle.library_calls.proofs.Snapshots.{one-more, all-taken}
use Rattle.library_calls.proofs.store_reads.fill.Goals as goal

pub loop-x-preserved : goal.loop-x-preserved
loop-x-preserved c =
    let inside : c.loop-x.x < length c.loop-x.room = omega (arith, c.loop-x-test.true, c.requires.places, c.loop-x.auto.room) in
    rw c.from.ensures (one-more c.args.store.now c.args.room.now c.loop-x.room c.loop-x.x c.state_at.result inside c.state_at.ensures c.loop-x.invariant)

pub returns : goal.returns
returns c =
    let all : c.loop-x.x ≡ length (objects c.args.store.now) = omega (arith, c.loop-x-test.false, c.loop-x.auto.x-end, c.requires.all) in
    let places : c.loop-x.x ≤ length c.loop-x.room = omega (arith, c.loop-x.auto.x-end, c.requires.places, c.loop-x.auto.room) in
    all-taken c.args.store.now c.args.room.now c.loop-x.room c.loop-x.x all places c.loop-x.invariant
