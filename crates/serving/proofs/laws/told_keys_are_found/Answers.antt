use Rattle.serving.specs.Acknowledged.{AreLast}
use Rattle.serving.proofs.KeysFound.{keys-found}
use Rattle.serving.proofs.laws.told_keys_are_found.Goals as goal

pub returns : goal.returns
returns g c b all ended given_now seen rest half lines answers now asked survives = keys-found g.S.Store b (AreLast all ended given_now) seen rest half lines answers now asked survives
