use Rattle.outputs.proofs.Turns.{Puts-exit_at}
use Rattle.std.proofs.Common.{◌∷◌}
use Rattle.std.specs.Fmt.{decimal}
use Rattle.need_text.proofs.numeric.write_numbers.Goals as goal

pub returns-in_err-write_number : goal.returns-in_err-write_number
returns-in_err-write_number g c =
    Puts-exit_at c.items_in_turn.ensures (λ n. 32 ∷ decimal n) c.args.numbers.now c.loop-n.n-index _ c.loop-n-test.true c.loop-n.invariant c.in_err-write_number.ensures c.from_residual.ensures.1
