use Rattle.request_text.proofs.Pairs.{calls-whole, objects-whole}
use Rattle.request_text.proofs.laws.no_word_is_left_out.Goals as goal

pub returns-clause-calls : goal.returns-clause-calls
returns-clause-calls c = calls-whole

pub returns-clause-objects : goal.returns-clause-objects
returns-clause-objects c = objects-whole
