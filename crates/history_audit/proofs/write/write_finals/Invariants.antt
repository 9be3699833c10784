-- The lines so far are one text that was taken whole.
use Rattle.std.proofs.Common.{Ok, take}
use Rattle.std.specs.List.{flat_map, enumerate_from}
use Rattle.outputs.specs.Out.{Puts}
use Rattle.history_audit.specs.Text.{serial_line}
use Rattle.history_audit.proofs.write.write_finals.Given as goal

abbrev pub invariant-loop-x : goal.invariant-loop-x
invariant-loop-x g l =
    Puts (g.W.Out.taken l.fn.out) (g.W.Out.taken l.out) (g.W.Out.fault l.out) (flat_map serial_line (take l.x (enumerate_from 0 l.finals))) (Ok tt)
