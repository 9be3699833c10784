use Rattle.std.proofs.Common.{[], ◌∷◌, refl}
use Rattle.type_table.specs.declared.table_kind.TableKind.TheVariants as tabled
use Rattle.object_trait.specs.Object.{object_of}
use Rattle.table_checker.proofs.Examples.{counter-table, counter-certified, counter-checked}
use Rattle.dynamic_atomicity.specs.OrderExamples.{loose_counter, paired_counter}
use Rattle.dynamic_atomicity.proofs.Counter.{counter-named, counter-complete, counter-reached, loose-certified, loose-unchecked}
use Rattle.made_runs.proofs.Counters.{counter-once}
use Rattle.made_runs.proofs.worked.a_yes_is_exact_at_a_store.Goals as goal

pub returns-clause-one_reply : goal.returns-clause-one_reply
returns-clause-one_reply c = counter-once c.steps_within.ensures

pub returns-clause-exact : goal.returns-clause-exact
returns-clause-exact c =
    c.store_yes_is_exact.ensures (object_of paired_counter ∷ []) 0 paired_counter tabled.Intentions refl counter-named (counter-once c.steps_within.ensures) refl counter-table counter-certified counter-complete counter-reached

pub returns-clause-legal : goal.returns-clause-legal
returns-clause-legal c = (returns-clause-exact c).0 counter-checked

pub returns-clause-not_legal : goal.returns-clause-not_legal
returns-clause-not_legal c = λ admits.
    loose-unchecked
    ((c.store_yes_is_exact.ensures (object_of loose_counter ∷ []) 0 loose_counter tabled.Intentions refl counter-named (counter-once c.steps_within.ensures) refl counter-table loose-certified counter-complete counter-reached).1 admits)
