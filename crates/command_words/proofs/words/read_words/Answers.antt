use Rattle.command_words.proofs.ServeLemmas.{behind_first, refused}
use Rattle.command_words.proofs.words.read_words.Goals as goal

pub returns-in-serve-clause-refused : goal.returns-in-serve-clause-refused
returns-in-serve-clause-refused c = refused _ _ _ (behind_first c.args.words.now _ _ c.in-serve.len_at_least c.in-serve.is-serve) c.read_serve.ensures.refused
