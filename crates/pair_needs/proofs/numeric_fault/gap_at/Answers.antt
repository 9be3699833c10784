use Rattle.pair_needs.proofs.FirstLegal.{least_below, legal_above, legal_below}
use Rattle.pair_needs.proofs.numeric_fault.gap_at.Goals as goal

pub least_from-low-requires-clause-some : goal.least_from-low-requires-clause-some
least_from-low-requires-clause-some c = legal_below c.args.table.now c.args.k c.args.s c.requires.gap

pub least_from-high-requires-clause-some : goal.least_from-high-requires-clause-some
least_from-high-requires-clause-some c = legal_above c.args.table.now c.args.k c.args.s c.requires.gap

pub returns : goal.returns
returns c = (
  c.least_from-low.ensures.first,
  least_below c.args.table.now c.args.k c.args.s c.least_from-low.result c.requires.gap c.least_from-low.ensures.first,
  c.requires.gap.illegal,
  c.least_from-high.ensures.first,
)
