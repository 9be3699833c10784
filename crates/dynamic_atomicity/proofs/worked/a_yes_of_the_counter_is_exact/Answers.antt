use Rattle.std.proofs.Common.{[], ◌∷◌, refl}
use Rattle.type_table.specs.declared.table_kind.TableKind.TheVariants as tabled
use Rattle.object_trait.specs.Object.{object_of}
use Rattle.table_checker.proofs.Examples.{counter-table, counter-certified, counter-checked}
use Rattle.dynamic_atomicity.specs.OrderExamples.{loose_counter, paired_counter}
use Rattle.dynamic_atomicity.proofs.Counter.{counter-named, counter-complete, counter-reached, loose-certified, loose-unchecked}
use Rattle.dynamic_atomicity.proofs.worked.a_yes_of_the_counter_is_exact.Goals as goal

pub returns-clause-named : goal.returns-clause-named
returns-clause-named c = counter-named

pub returns-clause-complete : goal.returns-clause-complete
returns-clause-complete c = counter-complete

pub returns-clause-reached : goal.returns-clause-reached
returns-clause-reached c = counter-reached

pub returns-clause-exact : goal.returns-clause-exact
returns-clause-exact c = c.yes_is_exact.ensures (object_of paired_counter ∷ []) 0 paired_counter tabled.Intentions refl counter-named refl counter-table counter-certified counter-complete counter-reached

pub returns-clause-yes : goal.returns-clause-yes
returns-clause-yes c = counter-checked

pub returns-clause-legal : goal.returns-clause-legal
returns-clause-legal c = (c.yes_is_exact.ensures (object_of paired_counter ∷ []) 0 paired_counter tabled.Intentions refl counter-named refl counter-table counter-certified counter-complete counter-reached).0 counter-checked

pub returns-clause-exact_without : goal.returns-clause-exact_without
returns-clause-exact_without c = c.yes_is_exact.ensures (object_of loose_counter ∷ []) 0 loose_counter tabled.Intentions refl counter-named refl counter-table loose-certified counter-complete counter-reached

pub returns-clause-not_legal : goal.returns-clause-not_legal
returns-clause-not_legal c = λ admits. loose-unchecked ((c.yes_is_exact.ensures (object_of loose_counter ∷ []) 0 loose_counter tabled.Intentions refl counter-named refl counter-table loose-certified counter-complete counter-reached).1 admits)
