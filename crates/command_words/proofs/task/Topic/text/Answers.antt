use Rattle.std.proofs.Common.{refl}
use Rattle.command_words.proofs.task.Topic.text.Goals as goal

pub returns-in-Check-clause-exact : goal.returns-in-Check-clause-exact
returns-in-Check-clause-exact c = rw c.in-Check.is refl
