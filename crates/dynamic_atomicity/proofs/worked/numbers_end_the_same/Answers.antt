use Rattle.std.proofs.Common.{[], ◌∷◌, refl}
use Rattle.std.proofs.lemmas.Bool.{false≢true}
use Rattle.dynamic_atomicity.specs.OrderExamples.{fives_history}
use Rattle.dynamic_atomicity.specs.Dynamic.{dated_at}
use Rattle.dynamic_atomicity.proofs.Keeping.{kept-each}
use Rattle.dynamic_atomicity.proofs.worked.numbers_end_the_same.Goals as goal

pub returns-clause-kept : goal.returns-clause-kept
returns-clause-kept c = kept-each (0 ∷ 1 ∷ 2 ∷ []) (dated_at 0 fives_history) (tt, (tt, ((refl, (refl, tt)), tt)))

pub returns-clause-turned : goal.returns-clause-turned
returns-clause-turned c = λ kept. false≢true (kept.1.1.0 refl 1 refl)
