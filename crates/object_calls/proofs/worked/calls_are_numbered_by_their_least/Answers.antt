use Rattle.object_calls.proofs.Examples.{read_call}
use Rattle.object_calls.proofs.worked.calls_are_numbered_by_their_least.Goals as goal

pub returns-clause-least : goal.returns-clause-least
returns-clause-least c = read_call
