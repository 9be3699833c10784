use Rattle.escrow_laws.proofs.Staying.{none_keeps}
use Rattle.escrow_laws.proofs.laws.nothing_keeps.Goals as goal

pub returns : goal.returns
returns c = none_keeps
