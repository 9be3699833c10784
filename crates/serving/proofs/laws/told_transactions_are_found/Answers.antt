use Rattle.serving.specs.Acknowledged.{AreLast}
use Rattle.serving.proofs.AnswersFound.{transactions-found}
use Rattle.serving.proofs.laws.told_transactions_are_found.Goals as goal

pub returns : goal.returns
returns g c b all ended given_now seen rest half lines answers now asked survives = transactions-found g.S.Store b (AreLast all ended given_now) seen rest half lines answers now asked survives
