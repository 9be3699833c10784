use Rattle.pair_needs.proofs.FirstLegal.{found_there}
use Rattle.pair_needs.proofs.numeric_fault.least_from.Goals as goal

pub returns : goal.returns
returns c =
    let found = found_there c.args.table.now c.args.k c.args.start c.first_legal.result c.first_legal.ensures c.requires.some in
    rw c.unwrap_or.ensures (record { first = found.0; inside = found.1 })
