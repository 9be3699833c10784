use Rattle.table_families.proofs.Threes.{changed}
use Rattle.table_families.proofs.seats.changes_one_seat.Goals as goal

pub returns : goal.returns
returns c = changed
