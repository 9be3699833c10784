-- The lines so far are one text that was taken whole.
use Rattle.std.proofs.Common.{Ok, take}
use Rattle.std.specs.List.{flat_map, enumerate_from}
use Rattle.outputs.specs.Out.{Puts}
use Rattle.history_audit.specs.EpochText.{order_lines}
use Rattle.history_audit.proofs.epoch_lines.write_orders.Given as goal

abbrev pub invariant-loop-epoch : goal.invariant-loop-epoch
invariant-loop-epoch g l =
    Puts (g.W.Out.taken l.fn.out) (g.W.Out.taken l.out) (g.W.Out.fault l.out) (flat_map order_lines (take l.epoch (enumerate_from 0 l.audits))) (Ok tt)
