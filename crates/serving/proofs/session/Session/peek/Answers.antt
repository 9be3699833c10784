use Rattle.std.proofs.Common.{[], ◌∷◌, Some, length, ap, arith}
use Rattle.std.proofs.lemmas.List.{length-append}
use Rattle.journal.specs.Journal.{Clean, written}
use Rattle.serving.specs.Several.{IsRepliedThere}
use Rattle.serving.proofs.InTurn.{turns-read}
use Rattle.serving.proofs.Peeked.{replied-some}
use Rattle.serving.proofs.session.Session.peek.Goals as goal

pub push_reserved-requires : goal.push_reserved-requires
push_reserved-requires g c = omega (arith, c.loop-at.invariant.many, c.loop-at.invariant.room, c.loop-at-test.true)

pub loop-at-preserved : goal.loop-at-preserved
loop-at-preserved g c =
    let s = c.args.self.now.store in
    record {
      seen = turns-read (λ call reply. IsRepliedThere (Clean g.S.Store s.journal) (written g.S.Store s.journal).objects s.store call (Some reply)) c.args.calls.now c.loop-at.replies.items c.loop-at.at c.push_reserved.ensures.items c.index-calls-at.is c.loop-at-test.true
          c.loop-at.invariant.seen (replied-some c.in-Ok-Some.ensures c.in-Ok-Some.field-0-is);
      many = omega (arith, ap length c.push_reserved.ensures.items, length-append c.loop-at.replies.items (c.in-Ok-Some.reply ∷ []), c.loop-at.invariant.many);
      room = omega (arith, c.push_reserved.ensures.capacity, c.loop-at.invariant.room);
    }
