use Rattle.pair_needs.proofs.FirstLegal.{legal_here}
use Rattle.pair_needs.proofs.numeric_fault.move_at.Goals as goal

pub least_from-low-requires-clause-some : goal.least_from-low-requires-clause-some
least_from-low-requires-clause-some c = legal_here c.args.table.now c.args.k c.args.s c.args.end c.requires.leads
