use Rattle.std.proofs.Common.{[], ◌∷◌}
use Rattle.outputs.proofs.Puts.{Puts-append, Puts-exit, line-words}
use Rattle.outputs.proofs.pieces.put_line.Goals as goal

pub returns-in_err-put_behind : goal.returns-in_err-put_behind
returns-in_err-put_behind g c =
    rw (← line-words (λ w. w.now) c.args.keyword.now c.args.words.now) (Puts-append c.in_ok-put.ensures (Puts-exit (10 ∷ []) c.in_err-put_behind.ensures c.from_residual-in_err-put_behind.ensures.1))

pub returns : goal.returns
returns g c =
    rw (← line-words (λ w. w.now) c.args.keyword.now c.args.words.now) (Puts-append c.in_ok-put.ensures (Puts-append c.in_ok-put_behind.ensures c.put-2.ensures))
