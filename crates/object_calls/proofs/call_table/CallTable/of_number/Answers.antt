use Rattle.number_types.specs.Operations.{number_table}
use Rattle.object_calls.specs.Calls.{HoldsCalls}
use Rattle.object_calls.proofs.Holding.{held_as}
use Rattle.std.proofs.Common.{arith}
use Rattle.object_calls.proofs.NumberCalls.{many_ops}
use Rattle.object_calls.proofs.call_table.CallTable.of_number.Goals as goal

pub returns : goal.returns
returns c = held_as (HoldsCalls (number_table c.args.number.now)) c.holding.result c.holding.ensures (record {
  all = λ few. absurd (omega (arith, few, many_ops c.args.number.now));
  some = λ many. c.loop-row.invariant;
})
