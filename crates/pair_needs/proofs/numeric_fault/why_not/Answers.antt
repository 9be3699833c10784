use Rattle.std.proofs.Common.{sym}
use Rattle.pair_needs.proofs.FirstLegal.{gap_of}
use Rattle.pair_needs.proofs.numeric_fault.why_not.Goals as goal

pub gap_at-requires-clause-gap : goal.gap_at-requires-clause-gap
gap_at-requires-clause-gap c = gap_of c.args.table.now c.args.k c.args.s (sym c.in-None.ensures.exact) c.requires.fault
