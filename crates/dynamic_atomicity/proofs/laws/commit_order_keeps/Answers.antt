use Rattle.dynamic_atomicity.proofs.Dynamic.{commit_order_keeps}
use Rattle.dynamic_atomicity.proofs.laws.commit_order_keeps.Goals as goal

pub returns : goal.returns
returns c = commit_order_keeps
