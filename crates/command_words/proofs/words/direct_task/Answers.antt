use Rattle.std.proofs.Common.{arith}
use Rattle.std.proofs.lemmas.Grind.{common_steps}
use Rattle.command_words.proofs.ParseLemmas.{no_topic}
use Rattle.command_words.proofs.words.direct_task.Goals as goal

pub returns-in_default-clause-other : goal.returns-in_default-clause-other
returns-in_default-clause-other c =
    (no_topic _ (grind (arith, common_steps)) (λ name. grind (arith, common_steps)), λ path. grind (arith, common_steps), grind (arith, common_steps), c.requires)
