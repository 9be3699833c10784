use Rattle.std.proofs.Common.{◌∷◌}
use Rattle.outputs.proofs.Puts.{Puts-exit_at}
use Rattle.outputs.proofs.pieces.put_behind.Goals as goal

pub returns-in_err-put_word : goal.returns-in_err-put_word
returns-in_err-put_word g c = Puts-exit_at (λ w. 32 ∷ w.now) c.args.words.now c.loop-word.word-index _ c.loop-word-test.true c.loop-word.invariant c.in_err-put_word.ensures c.from_residual.ensures.1
