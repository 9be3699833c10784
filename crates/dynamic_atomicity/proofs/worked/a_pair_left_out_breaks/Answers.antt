use Rattle.std.proofs.Common.{refl}
use Rattle.std.proofs.lemmas.Bool.{false≢true}
use Rattle.type_table.specs.Table.{next}
use Rattle.dynamic_atomicity.specs.OrderExamples.{loose_account}
use Rattle.dynamic_atomicity.proofs.worked.a_pair_left_out_breaks.Goals as goal

pub returns-clause-illegal : goal.returns-clause-illegal
unfolding next
returns-clause-illegal c = λ serial. false≢true (serial 1 loose_account refl)
