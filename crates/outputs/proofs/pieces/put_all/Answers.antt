use Rattle.outputs.proofs.Puts.{Puts-exit_at}
use Rattle.outputs.proofs.pieces.put_all.Goals as goal

pub returns-in_err-put : goal.returns-in_err-put
returns-in_err-put g c = Puts-exit_at (λ piece. piece.now) c.args.pieces.now c.loop-piece.piece-index _ c.loop-piece-test.true c.loop-piece.invariant c.in_err-put.ensures c.from_residual.ensures.1
