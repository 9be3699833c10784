use Rattle.object_trait.proofs.Meanings.{struck_log-legal}
use Rattle.object_trait.proofs.laws.struck_log_is_legal.Goals as goal

pub returns : goal.returns
returns c = search (c, struck_log-legal)
