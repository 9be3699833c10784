use Rattle.store_limits.specs.Standard.{standard_with}
use Rattle.std.proofs.Common.{[], ◌∷◌, refl}
use Rattle.std.proofs.lemmas.Bool.{false≢true}
use Rattle.type_table.specs.Table.{next}
use Rattle.serial_order.specs.Examples.{undo_counter}
use Rattle.dynamic_atomicity.specs.Converse.{breaking}
use Rattle.dynamic_atomicity.specs.OrderExamples.{loose_account}
use Rattle.made_runs.specs.Examples.{balance_and_deposit}
use Rattle.made_runs.proofs.Accounts.{loose-reached, small-named, small-once}
use Rattle.made_runs.proofs.worked.a_loose_account_is_not_covered.Goals as goal

pub returns-clause-named : goal.returns-clause-named
returns-clause-named c = small-named c.steps_within.ensures

pub returns-clause-reached : goal.returns-clause-reached
returns-clause-reached c = loose-reached c.steps_within.ensures

pub returns-clause-not_enough : goal.returns-clause-not_enough
unfolding next
returns-clause-not_enough c = λ covered.
    let within = c.steps_within.ensures in
    let exact = c.store_undo_is_exact.ensures (undo_counter ∷ loose_account ∷ []) 1 loose_account refl (small-named within) (small-once within) refl (loose-reached within) in
    false≢true (exact.0 covered (standard_with 30) (breaking 1 2 1 [] 0 1 []) (balance_and_deposit, refl))
