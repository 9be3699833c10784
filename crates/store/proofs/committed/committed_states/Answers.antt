use Rattle.std.proofs.Common.{[], sym, subst, arith}
use Rattle.std.proofs.lemmas.List.{take_all}
use Rattle.store.specs.CommittedStates.{HaveCommitted}
use Rattle.store.proofs.CommittedStates.{committed-none, committed-more}
use Rattle.store.proofs.committed.committed_states.Goals as goal

pub loop-object-init : goal.loop-object-init
loop-object-init g c = record {
  room = omega (arith, c.in_ok-states.ensures.capacity);
  count = omega (arith, c.in_ok-states.ensures.len);
  exact = subst (HaveCommitted []) (sym c.in_ok-states.ensures.items) (committed-none g.R.Recovery.meaning c.args.objects.now);
}

pub push_reserved-requires : goal.push_reserved-requires
push_reserved-requires g c = omega (arith, c.loop-object.invariant.count, c.loop-object.invariant.room, c.loop-object-test.true)

pub loop-object-preserved : goal.loop-object-preserved
loop-object-preserved g c = record {
  room = omega (arith, c.loop-object.invariant.room, c.push_reserved.ensures.capacity);
  count = omega (arith, c.loop-object.invariant.count, c.push_reserved.ensures.len);
  exact =
      committed-more g.R.Recovery.meaning c.args.objects.now c.loop-object.object-index c.object-item.result c.loop-object.states.items c.push_reserved.new.self.items c.committed.result
      c.loop-object-test.true c.object-item.is c.loop-object.invariant.exact c.committed.ensures.exact (omega (arith, c.committed.type_inv)) c.push_reserved.ensures.items;
}

pub returns : goal.returns
returns g c =
    let all = take_all c.loop-object.object-index c.args.objects.now (omega (arith, c.loop-object-test.false)) in
    rw all at c.loop-object.invariant.exact
