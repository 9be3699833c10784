use Rattle.std.proofs.Common.{◌+◌, ◌∙◌, length, ap, arith}
use Rattle.std.proofs.lemmas.List.{length-append, map-append}
use Rattle.journal.specs.Journal.{Clean, written}
use Rattle.attempts.specs.Commands.{asked_call, asked_calls}
use Rattle.request_text.specs.declared.request.AskedCall.{AskedCall}
use Rattle.serving.specs.Several.{IsCallAt}
use Rattle.serving.proofs.InTurn.{same-element, turns-put}
use Rattle.serving.proofs.session.Session.calls_at.Goals as goal

pub push_reserved-requires : goal.push_reserved-requires
push_reserved-requires g c = omega (arith, c.loop-at.invariant.many, c.loop-at.invariant.room, c.loop-at-test.true)

pub loop-at-preserved : goal.loop-at-preserved
loop-at-preserved g c =
    let s = c.args.self.now.store in
    record {
      at = turns-put (IsCallAt (Clean g.S.Store s.journal) (written g.S.Store s.journal).objects) c.args.calls.now (asked_calls c.loop-at.made.items) c.loop-at.at _
          (ap asked_calls c.push_reserved.ensures.items ∙ map-append asked_call c.loop-at.made.items _) c.loop-at-test.true c.loop-at.invariant.at (c.number_of.ensures, c.as_bytes.ensures.exact ∙ ap (λ (call : AskedCall). call.call) (same-element c.args.calls.now c.loop-at.at _ _ c.loop-at-test.true));
      many = simp length-append at (ap length c.push_reserved.ensures.items) ∙ ap (λ n. n + 1) c.loop-at.invariant.many;
      room = omega (arith, c.push_reserved.ensures.capacity, c.loop-at.invariant.room);
    }
