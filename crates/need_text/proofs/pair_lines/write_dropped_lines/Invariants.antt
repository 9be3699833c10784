use Rattle.std.proofs.Common.{Ok}
use Rattle.std.specs.List.{flat_map, range_with_len}
use Rattle.outputs.specs.Out.{Puts}
use Rattle.need_text.specs.Text.{dropped_line}
use Rattle.need_text.proofs.pair_lines.write_dropped_lines.Given as goal

abbrev pub invariant-loop-s : goal.invariant-loop-s
invariant-loop-s g l = Puts (g.W.Out.taken l.fn.out) (g.W.Out.taken l.out) (g.W.Out.fault l.out) (flat_map (dropped_line l.file l.led) (range_with_len 0 l.s)) (Ok tt)
