use Rattle.command_words.proofs.OrderedLemmas.{none_behind}
use Rattle.command_words.proofs.ordered.task_of.Goals as goal

pub returns-in-len2-up-clause-other : goal.returns-in-len2-up-clause-other
returns-in-len2-up-clause-other c = none_behind _ c.args.words.now _ c.in-len2-up.len_at_least c.ordered_task.ensures.other
