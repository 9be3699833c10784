use Rattle.std.proofs.Common.{◌∙◌, sym, ap}
use Rattle.store_text.specs.Size.{size_in}
use Rattle.store_text.proofs.Sizes.{size_of_none}
use Rattle.store_text.proofs.size.text_size.Goals as goal

pub returns-in-None-clause-exact : goal.returns-in-None-clause-exact
returns-in-None-clause-exact c = sym (ap size_in c.in-None.ensures ∙ size_of_none)
