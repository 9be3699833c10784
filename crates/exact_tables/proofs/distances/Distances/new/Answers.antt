use Rattle.exact_tables.proofs.RoundFacts.{distances-shown}
use Rattle.exact_tables.proofs.distances.Distances.new.Goals as goal

pub returns : goal.returns
returns c =
    distances-shown c.steps_within.ensures c.args.table.now c.in_ok-search.search c.states-states.result c.into_cells-cells.result.items c.states-states.ensures.table c.in_ok-search.ensures
    c.states-states.ensures.exact c.into_cells-cells.ensures.exact
