use Rattle.type_table.proofs.Ends.{legal-ends}
use Rattle.type_table.proofs.laws.legal_ends.Goals as goal

pub returns : goal.returns
returns c = legal-ends
