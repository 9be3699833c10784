use Rattle.std.proofs.Common.{ap, sym}
use Rattle.type_text.specs.TypeLines.{key_of}
use Rattle.type_text.proofs.type_grammar.TypeGrammarGrammar.key.Goals as goal

pub returns-in-Step : goal.returns-in-Step
returns-in-Step c = sym (ap key_of c.in-Step.is)
