use Rattle.std.proofs.Common.{◌≡◌, ◌+◌, ◌<◌, [], ◌∷◌, None, Some, length, map, take, get_or, sym, ap, subst, ◌∙◌, arith}
use Rattle.std.proofs.lemmas.List.{length-append, take_all}
use Rattle.attempts.specs.Commands.{asked_calls}
use Rattle.serving.specs.Several.{replies_of}
use Rattle.serving.proofs.ToldReplies.{calls-many, replies-many, reply-there, told-step}
use Rattle.serving.proofs.whole.replies_answer.Goals as goal

pub returns-in-None : goal.returns-in-None
returns-in-None c =
    let low : c.loop-at.at < length c.args.calls.now = omega (arith, c.min-count.ensures, c.loop-at-test.true) in
    let few : c.loop-at.at < length c.args.operations.now = omega (arith, c.min-count.ensures, c.loop-at-test.true) in
    let many = replies-many c.args.store.now (asked_calls c.args.calls.now) c.args.operations.now in (
      c.loop-at.at,
      omega (arith, many, calls-many c.args.calls.now, low, few),
      reply-there c.args.store.now c.args.calls.now c.args.operations.now c.loop-at.at _ c.index-operations-at.result low few c.index-operations-at.is ∙ sym c.found_reply.ensures ∙ c.in-None.is,
    )

pub loop-at-preserved : goal.loop-at-preserved
loop-at-preserved c =
    let low : c.loop-at.at < length c.args.calls.now = omega (arith, c.min-count.ensures, c.loop-at-test.true) in
    let few : c.loop-at.at < length c.args.operations.now = omega (arith, c.min-count.ensures, c.loop-at-test.true) in
    let replies = replies_of c.args.store.now (asked_calls c.args.calls.now) c.args.operations.now in
    let many = replies-many c.args.store.now (asked_calls c.args.calls.now) c.args.operations.now in
    let there : get_or replies c.loop-at.at None ≡ Some c.in-Some.reply =
    reply-there c.args.store.now c.args.calls.now c.args.operations.now c.loop-at.at _ c.index-operations-at.result low few c.index-operations-at.is ∙ sym c.found_reply.ensures ∙ c.in-Some.is in
    record {
      told = subst (λ xs. map Some xs ≡ take (c.loop-at.at + 1) replies) (sym c.push_reserved.ensures.items)
          (told-step replies c.loop-at.replies.items c.loop-at.at c.in-Some.reply (omega (arith, many, calls-many c.args.calls.now, low, few)) c.loop-at.invariant.told there);
      many = omega (arith, ap length c.push_reserved.ensures.items, length-append c.loop-at.replies.items (c.in-Some.reply ∷ []), c.loop-at.invariant.many);
      room = omega (arith, c.push_reserved.ensures.capacity, c.loop-at.invariant.room);
    }

pub returns : goal.returns
returns c =
    let many = replies-many c.args.store.now (asked_calls c.args.calls.now) c.args.operations.now in
    c.loop-at.invariant.told ∙ take_all c.loop-at.at (replies_of c.args.store.now (asked_calls c.args.calls.now) c.args.operations.now) (omega (arith, many, calls-many c.args.calls.now, c.min-count.ensures, c.loop-at-test.false))
