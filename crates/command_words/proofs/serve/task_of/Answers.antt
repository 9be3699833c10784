use Rattle.std.proofs.Common.{refl}
use Rattle.command_words.proofs.ServeLemmas.{whole_parts}
use Rattle.command_words.proofs.serve.task_of.Goals as goal

pub returns-in-Some-clause-whole : goal.returns-in-Some-clause-whole
returns-in-Some-clause-whole c = (_, refl, whole_parts c.in-Some.database c.args.parts c.args.parts.fast c.args.parts.archive _ _ refl c.in-Some.is refl c.unwrap_or.ensures c.unwrap_or-in-Some.ensures)
