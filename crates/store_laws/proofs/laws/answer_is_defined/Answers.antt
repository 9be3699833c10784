use Rattle.store_laws.proofs.Asked.{answer-is-defined}
use Rattle.store_laws.proofs.laws.answer_is_defined.Goals as goal

pub returns : goal.returns
returns c = answer-is-defined c.command_appends.ensures.accepted
