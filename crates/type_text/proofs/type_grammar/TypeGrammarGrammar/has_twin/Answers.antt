use Rattle.type_text.specs.Kept.{kept_lines}
use Rattle.type_text.proofs.Twins.{never_twin}
use Rattle.type_text.proofs.type_grammar.TypeGrammarGrammar.has_twin.Goals as goal

pub returns-in_default : goal.returns-in_default
returns-in_default c = never_twin c.args.item (kept_lines c.args.before.now) c.in_default.not-Operation
