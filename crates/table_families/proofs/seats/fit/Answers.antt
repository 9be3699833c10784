use Rattle.table_families.proofs.SeatFacts.{fit-iff}
use Rattle.table_families.proofs.seats.fit.Goals as goal

pub returns : goal.returns
returns c = fit-iff c.args.count
