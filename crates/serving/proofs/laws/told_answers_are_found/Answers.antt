use Rattle.serving.specs.Acknowledged.{AreLast}
use Rattle.serving.proofs.AnswersFound.{answers-found}
use Rattle.serving.proofs.laws.told_answers_are_found.Goals as goal

pub returns : goal.returns
returns g c b all ended given_now seen rest half lines answers now asked survives = answers-found g.S.Store b (AreLast all ended given_now) seen rest half lines answers now asked survives
