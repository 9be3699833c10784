use Rattle.std.proofs.Common.{take}
use Rattle.object_calls.proofs.Tabled.{names_of}
use Rattle.object_calls.specs.Collected.{AreCallsOf}
use Rattle.object_calls.proofs.call_table.CallTable.of_table.Given as goal

abbrev pub invariant-loop-k : goal.invariant-loop-k
invariant-loop-k l = AreCallsOf (take l.k (names_of l.ops)) l.calls.items
