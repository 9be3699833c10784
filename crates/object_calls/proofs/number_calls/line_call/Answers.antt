use Rattle.object_calls.proofs.NumberCalls.{line_word}
use Rattle.object_calls.proofs.number_calls.line_call.Goals as goal

pub returns-clause-line : goal.returns-clause-line
returns-clause-line c = rw c.place.ensures.exact (line_word _ c.requires)
