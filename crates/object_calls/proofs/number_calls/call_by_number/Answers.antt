use Rattle.std.proofs.lemmas.Bool.{iff_false}
use Rattle.number_types.specs.Operations.{number_table}
use Rattle.number_types.proofs.FirstNamed.{first_again}
use Rattle.object_calls.proofs.NumberCalls.{first_place, line_is_call}
use Rattle.object_calls.proofs.number_calls.call_by_number.Goals as goal

pub line_call-requires : goal.line_call-requires
line_call-requires c = first_place c.args.number.now c.args.c c.calls-calls.ensures.number (c.is_first.ensures.0 c.if-is_first.true)

pub returns-then-is_first-clause-call : goal.returns-then-is_first-clause-call
returns-then-is_first-clause-call c = (
  c.line_call.ensures.first,
  line_is_call c.args.number.now c.line_call.result c.args.c c.line_call.ensures.first (c.is_first.ensures.0 c.if-is_first.true) c.line_call.ensures.line,
)

pub returns-else-is_first-clause-named : goal.returns-else-is_first-clause-named
returns-else-is_first-clause-named c = λ name found.
    absurd (iff_false c.is_first.ensures c.if-is_first.false (first_again (number_table c.args.number.now) name c.args.c found))
