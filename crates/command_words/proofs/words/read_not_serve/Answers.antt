use Rattle.command_words.proofs.OrderedLemmas.{behind_order, refused}
use Rattle.command_words.proofs.words.read_not_serve.Goals as goal

pub returns-in-audit-clause-refused : goal.returns-in-audit-clause-refused
returns-in-audit-clause-refused c =
    refused _ _ _ (behind_order c.args.words.now _ c.in-audit.len_at_least c.in-audit.is-audit c.in-audit.is-text) c.read_ordered.ensures.refused
