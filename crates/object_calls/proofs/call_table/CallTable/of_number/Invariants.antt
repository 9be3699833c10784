use Rattle.std.proofs.Common.{All}
use Rattle.number_types.specs.Operations.{number_table}
use Rattle.object_calls.specs.Calls.{IsNamedCall}
use Rattle.object_calls.proofs.call_table.CallTable.of_number.Given as goal

abbrev pub invariant-loop-row : goal.invariant-loop-row
invariant-loop-row l = All (IsNamedCall (number_table l.number)) l.calls.items
