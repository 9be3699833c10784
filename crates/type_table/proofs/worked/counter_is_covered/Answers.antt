use Rattle.std.proofs.Common.{refl, arith}
use Rattle.std.proofs.lemmas.Bool.{false≢true}
use Rattle.std.proofs.lemmas.Grind.{common_steps}
use Rattle.type_table.specs.Table.{next}
use Rattle.type_table.proofs.Examples.{counter-forward}
use Rattle.type_table.proofs.worked.counter_is_covered.Goals as goal

pub returns-clause-forward : goal.returns-clause-forward
unfolding next
returns-clause-forward c = record { begins_inside = refl; closed = grind (arith, common_steps); commute = counter-forward }

-- at state 1 up is legal, and not twice
pub returns-clause-needed : goal.returns-clause-needed
unfolding next
returns-clause-needed c = λ h. false≢true (h.commute 0 0 refl 1 refl refl refl).0
