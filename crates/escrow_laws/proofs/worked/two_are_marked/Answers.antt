use Rattle.escrow_laws.proofs.Examples.{two-marked}
use Rattle.escrow_laws.proofs.worked.two_are_marked.Goals as goal

pub returns-clause-known : goal.returns-clause-known
returns-clause-known c = two-marked
