use Rattle.std.proofs.Common.{inl, inr, refl, arith}
use Rattle.type_table.specs.Table.{next}
use Rattle.type_table.specs.Examples.{counter_table}
use Rattle.history_audit.proofs.worked.the_least_object_comes_first.Goals as goal

pub returns-clause-executed_first : goal.returns-clause-executed_first
unfolding next
returns-clause-executed_first c = record { t = 0; table = counter_table; transaction = refl; object = refl; there = omega arith; illegal = refl }

pub returns-clause-first : goal.returns-clause-first
unfolding next
returns-clause-first c = record { t = 0; table = counter_table; transaction = refl; object = refl; there = omega arith; illegal = refl }

pub returns-clause-order : goal.returns-clause-order
returns-clause-order c = inr (refl, inl (omega arith))
