use Rattle.std.proofs.Common.{[], ◌∷◌, length, ap, subst, arith}
use Rattle.std.proofs.lemmas.List.{length-append}
use Rattle.journal.specs.Journal.{Clean, written}
use Rattle.store.specs.CommittedStates.{IsCommittedState}
use Rattle.serving.specs.Several.{IsStateThere}
use Rattle.serving.proofs.InTurn.{turns-read}
use Rattle.serving.proofs.session.Session.committed.Goals as goal

pub push_reserved-requires : goal.push_reserved-requires
push_reserved-requires g c = omega (arith, c.loop-at.invariant.many, c.loop-at.invariant.room, c.loop-at-test.true)

pub loop-at-preserved : goal.loop-at-preserved
loop-at-preserved g c =
    let s = c.args.self.now.store in
    record {
      seen = turns-read (IsStateThere (Clean g.S.Store s.journal) (written g.S.Store s.journal).objects s.store) c.args.objects.now c.loop-at.states.items c.loop-at.at c.push_reserved.ensures.items c.index-objects-at.is c.loop-at-test.true c.loop-at.invariant.seen
          (c.number_of.result, c.number_of.ensures, subst (λ t. IsCommittedState t c.number_of.result c.in-Some.state) c.store.ensures c.in-Some.ensures.committed);
      many = omega (arith, ap length c.push_reserved.ensures.items, length-append c.loop-at.states.items (c.in-Some.state ∷ []), c.loop-at.invariant.many);
      room = omega (arith, c.push_reserved.ensures.capacity, c.loop-at.invariant.room);
    }
