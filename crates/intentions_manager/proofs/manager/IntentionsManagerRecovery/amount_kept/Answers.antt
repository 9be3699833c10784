use Rattle.object_trait.proofs.Amounts.{told-of-table}
use Rattle.intentions_manager.proofs.Keeping.{meant}
use Rattle.intentions_manager.proofs.manager.IntentionsManagerRecovery.amount_kept.Goals as goal

pub returns : goal.returns
returns c = rw (← c.self.view_is) (told-of-table (meant c.self.inside) c.self.invariant.0.table c.args._t c.args._place c.args._u)
