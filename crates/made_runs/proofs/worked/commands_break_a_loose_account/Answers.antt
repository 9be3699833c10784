use Rattle.std.proofs.Common.{refl}
use Rattle.std.proofs.lemmas.Bool.{false≢true}
use Rattle.type_table.specs.Table.{next}
use Rattle.dynamic_atomicity.specs.OrderExamples.{loose_account}
use Rattle.made_runs.specs.Examples.{balance_and_deposit}
use Rattle.made_runs.proofs.Accounts.{small-once}
use Rattle.made_runs.proofs.worked.commands_break_a_loose_account.Goals as goal

pub returns-clause-one_reply : goal.returns-clause-one_reply
returns-clause-one_reply c = small-once c.steps_within.ensures

pub returns-clause-made : goal.returns-clause-made
unfolding next
returns-clause-made c = (balance_and_deposit, refl)

pub returns-clause-illegal : goal.returns-clause-illegal
unfolding next
returns-clause-illegal c = λ serial. false≢true (serial 1 loose_account refl)
