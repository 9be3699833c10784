use Rattle.std.proofs.Common.{sym, subst}
use Rattle.store_laws.specs.Stored.{objects}
use Rattle.attempts.specs.Made.{MakesCall}
use Rattle.attempts.specs.Numbered.{named_call}
use Rattle.attempts.proofs.Numbered.{number-came}
use Rattle.attempts.proofs.calls.make_call_op.Goals as goal

pub returns : goal.returns
returns g c =
    let s = c.args.store.now in
    subst (λ r. MakesCall s c.args.w c.args.t (named_call (objects s) c.args.x c.args.c) r c.call_op.new.self) (sym c.reply_to.ensures)
    (number-came c.summary_after.ensures s c.args.w c.args.t c.args.x c.args.c c.call_op.new.self c.requires.going c.requires.room c.call_op.result c.call_op.ensures.step
    c.call_op.ensures.answer c.call_op.ensures.unnumbered)
