use Rattle.std.proofs.Common.{Ok, take}
use Rattle.std.specs.List.{flat_map}
use Rattle.outputs.specs.Out.{Puts}
use Rattle.need_text.specs.Text.{op_line}
use Rattle.need_text.proofs.pair_lines.write_op_lines.Given as goal

abbrev pub invariant-loop-k : goal.invariant-loop-k
invariant-loop-k g l = Puts (g.W.Out.taken l.fn.out) (g.W.Out.taken l.out) (g.W.Out.fault l.out) (flat_map (op_line l.t) (take l.k-index l.ops)) (Ok tt)
