use Rattle.std.proofs.Common.{[], ◌∷◌, refl}
use Rattle.std.proofs.lemmas.Bool.{false≢true}
use Rattle.serial_order.specs.Examples.{half_deferred_history}
use Rattle.dynamic_atomicity.specs.Dynamic.{dated}
use Rattle.dynamic_atomicity.proofs.Keeping.{kept-each}
use Rattle.dynamic_atomicity.proofs.worked.operations_have_dates.Goals as goal

pub returns-clause-kept : goal.returns-clause-kept
returns-clause-kept c = kept-each (1 ∷ 0 ∷ []) (dated half_deferred_history) (tt, ((refl, tt), tt))

pub returns-clause-turned : goal.returns-clause-turned
returns-clause-turned c = λ kept. false≢true (kept.1.0 refl 1 refl)
