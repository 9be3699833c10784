use Rattle.std.proofs.Common.{◌+◌, ◌∙◌, length, ap, arith, refl}
use Rattle.std.proofs.lemmas.List.{length-append}
use Rattle.serving.specs.HeldTransactions.{IsToldHeld}
use Rattle.serving.proofs.InTurn.{turns-read}
use Rattle.serving.proofs.held_transactions.held_transactions.Goals as goal

pub push_reserved-requires : goal.push_reserved-requires
push_reserved-requires c = omega (arith, c.loop-at.invariant.many, c.loop-at.invariant.room, c.loop-at-test.true)

pub loop-at-preserved : goal.loop-at-preserved
loop-at-preserved c = record {
  held = turns-read (IsToldHeld c.args.store.now) c.args.prepared.now c.loop-at.told.items c.loop-at.at c.push_reserved.ensures.items c.index-prepared-at.is c.loop-at-test.true c.loop-at.invariant.held
      (record { prepared = refl; objects = c.in_ok-objects.ensures });
  many = simp length-append at (ap length c.push_reserved.ensures.items) ∙ ap (λ n. n + 1) c.loop-at.invariant.many;
  room = omega (arith, c.push_reserved.ensures.capacity, c.loop-at.invariant.room);
}
