use Rattle.std.proofs.Common.{codes, arith}
use Rattle.table_families.proofs.AmountFacts.{length-amounts}
use Rattle.table_families.proofs.stock.StockRulesFamilyRules.step.Goals as goal

pub bounds-self-k : goal.bounds-self-k
bounds-self-k c = omega (arith, c.requires.operation, length-amounts (codes "give:") (codes "take:") c.args.self.now.amounts.now)
