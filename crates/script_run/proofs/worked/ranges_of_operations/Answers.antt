use Rattle.std.proofs.Common.{refl}
use Rattle.std.proofs.lemmas.Bool.{false≢true}
use Rattle.script_run.proofs.worked.ranges_of_operations.Goals as goal

pub returns : goal.returns
returns c = record {
  greatest = record { place = refl; amount = refl };
  place = λ fits. false≢true fits.place;
  amount = λ fits. false≢true fits.amount;
}
