-- The lines of the rows so far are written.
use Rattle.std.proofs.Common.{Ok, take}
use Rattle.std.specs.List.{flat_map}
use Rattle.outputs.specs.Out.{Puts}
use Rattle.type_commands.specs.Rows.{type_row_line}
use Rattle.type_commands.proofs.rows.write_row_lines.Given as goal

abbrev pub invariant-loop-k : goal.invariant-loop-k
invariant-loop-k g l = Puts (g.W.Out.taken l.fn.out) (g.W.Out.taken l.out) (g.W.Out.fault l.out) (flat_map (type_row_line l.declared) (take l.k-index l.rows)) (Ok tt)
