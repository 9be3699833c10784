use Rattle.std.proofs.Common.{arith}
use Rattle.table_families.proofs.CounterFacts.{length-changes}
use Rattle.table_families.proofs.counter.CounterRulesFamilyRules.step.Goals as goal

pub bounds-self-k : goal.bounds-self-k
bounds-self-k c = omega (arith, c.requires.operation, length-changes c.args.self.now.amounts.now)
