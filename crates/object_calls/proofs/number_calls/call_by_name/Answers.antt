use Rattle.std.proofs.Common.{sym}
use Rattle.number_types.proofs.FirstNamed.{first_again}
use Rattle.object_calls.proofs.NumberCalls.{first_place, line_is_call}
use Rattle.number_types.specs.Operations.{number_table}
use Rattle.object_calls.proofs.number_calls.call_by_name.Goals as goal

pub line_call-requires : goal.line_call-requires
line_call-requires c =
    first_place c.args.number.now c.in_ok-first.first c.calls-calls.ensures.number
    (first_again (number_table c.args.number.now) c.args.name.now c.in_ok-first.first (sym c.in_ok-first.ensures))

pub returns-clause-call : goal.returns-clause-call
returns-clause-call c =
    line_is_call c.args.number.now c.line_call.result c.in_ok-first.first c.line_call.ensures.first
    (first_again (number_table c.args.number.now) c.args.name.now c.in_ok-first.first (sym c.in_ok-first.ensures)) c.line_call.ensures.line
