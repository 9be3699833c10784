use Rattle.outputs.proofs.Turns.{Puts-exit_at}
use Rattle.need_text.specs.Text.{equi_line}
use Rattle.need_text.proofs.pair_lines.write_relation.Goals as goal

pub returns-in_err-write_equi : goal.returns-in_err-write_equi
returns-in_err-write_equi g c =
    Puts-exit_at c.items_in_turn.ensures (equi_line) c.args.pairs.now c.loop-pair.pair-index _ c.loop-pair-test.true c.loop-pair.invariant c.in_err-write_equi.ensures c.from_residual.ensures.1
