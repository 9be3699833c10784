use Rattle.std.proofs.Common.{[], ◌∷◌, ◌++◌, refl}
use Rattle.std.proofs.lemmas.Bool.{false≢true}
use Rattle.type_table.specs.Table.{next}
use Rattle.escrow_laws.specs.Bounds.{steps_of}
use Rattle.serial_order.specs.Examples.{short_history}
use Rattle.escrow_exact.specs.Examples.{give, two_commits}
use Rattle.escrow_exact.proofs.worked.to_admit_everything_breaks.Goals as goal

pub returns-clause-not_serial : goal.returns-clause-not_serial
unfolding next steps_of
returns-clause-not_serial c = λ serial. false≢true (serial ((short_history ++ give ∷ []) ++ two_commits) refl)
