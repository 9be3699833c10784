use Rattle.std.proofs.Common.{sym}
use Rattle.number_text.proofs.Follows.{no_twins}
use Rattle.number_text.proofs.number_grammar.NumberGrammarGrammar.has_twin.Goals as goal

pub returns : goal.returns
returns c = sym (no_twins c.args._before.now.items)
