use Rattle.std.proofs.Common.{sym, subst}
use Rattle.attempts.specs.Commands.{asked_call}
use Rattle.attempts.specs.Made.{MakesCall}
use Rattle.attempts.proofs.Answered.{came}
use Rattle.attempts.proofs.calls.make_call.Goals as goal

pub returns : goal.returns
returns g c =
    let call = asked_call c.args.call.now in
    subst (λ r. MakesCall c.args.store.now c.args.w c.args.t call r c.call_bytes.new.self) (sym c.reply_to.ensures)
    (came c.summary_after.ensures c.args.store.now c.args.w c.args.t call c.call_bytes.new.self c.requires.going c.requires.room c.call_bytes.result c.call_bytes.ensures.step c.call_bytes.ensures.answer)
