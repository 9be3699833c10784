use Rattle.serving.proofs.OneName.{serves-apart}
use Rattle.serving.proofs.laws.names_stay_apart.Goals as goal

pub returns : goal.returns
returns c most said first old names apart knew = serves-apart apart knew.serves
