use Rattle.std.proofs.Common.{arith}
use Rattle.table_families.proofs.SetFacts.{length-elements}
use Rattle.table_families.proofs.set.SetRulesFamilyRules.step.Goals as goal

pub element_step-requires : goal.element_step-requires
element_step-requires c = omega (arith, c.args.self.now.fits, c.requires.operation, length-elements c.args.self.now.elements.now)
