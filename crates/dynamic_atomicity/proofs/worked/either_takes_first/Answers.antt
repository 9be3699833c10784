use Rattle.std.proofs.Common.{[], ◌∷◌, refl}
use Rattle.std.proofs.lemmas.Bool.{false≢true}
use Rattle.serial_order.specs.Examples.{semiqueue_history}
use Rattle.dynamic_atomicity.specs.Dynamic.{dated_at}
use Rattle.dynamic_atomicity.proofs.Keeping.{kept-each}
use Rattle.dynamic_atomicity.proofs.worked.either_takes_first.Goals as goal

pub returns-clause-kept : goal.returns-clause-kept
returns-clause-kept c = kept-each (0 ∷ 1 ∷ 2 ∷ []) (dated_at 0 semiqueue_history) (tt, (tt, ((refl, tt), ((refl, tt), tt))))

pub returns-clause-turned_is_not : goal.returns-clause-turned_is_not
returns-clause-turned_is_not c = λ kept. false≢true (kept.1.1.0 refl 0 refl)
