-- The list has the rows of the calls so far.
use Rattle.std.proofs.Common.{◌≡◌, take}
use Rattle.std.specs.List.{flat_map}
use Rattle.number_types.specs.Operations.{rows_of_call}
use Rattle.number_types.proofs.rows.rows_of.Given as goal

abbrev pub invariant-loop-call : goal.invariant-loop-call
invariant-loop-call l = l.rows.items ≡ flat_map rows_of_call (take l.call-index l.calls)
