use Rattle.std.proofs.Common.{[], ◌∷◌, refl}
use Rattle.std.proofs.lemmas.Bool.{false≢true}
use Rattle.type_table.specs.Table.{next}
use Rattle.escrow_laws.specs.Bounds.{steps_of}
use Rattle.escrow_exact.specs.Examples.{two_commits}
use Rattle.escrow_exact.proofs.worked.after_a_short_reply_it_is_not.Goals as goal

-- 1 commits what it gives, and then 0
pub returns-clause-not_safe : goal.returns-clause-not_safe
unfolding next steps_of
returns-clause-not_safe c = λ safe. false≢true (safe 0 ((record { by = 1; count = 1 }) ∷ []) (refl, tt, tt))

pub returns-clause-breaks : goal.returns-clause-breaks
unfolding next steps_of
returns-clause-breaks c = record { ends = two_commits; are_ends = (refl, (refl, tt)); illegal = λ legal. false≢true legal }
