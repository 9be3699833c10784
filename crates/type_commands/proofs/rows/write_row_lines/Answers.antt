use Rattle.outputs.proofs.Turns.{Puts-exit_at}
use Rattle.type_commands.specs.Rows.{type_row_line}
use Rattle.type_commands.proofs.rows.write_row_lines.Goals as goal

pub returns-in_err-write_row_line : goal.returns-in_err-write_row_line
returns-in_err-write_row_line g c =
    Puts-exit_at c.items_in_turn.ensures (type_row_line c.args.declared.now) c.args.rows.now c.loop-k.k-index 0 c.loop-k-test.true c.loop-k.invariant c.in_err-write_row_line.ensures
    c.from_residual.ensures.1
