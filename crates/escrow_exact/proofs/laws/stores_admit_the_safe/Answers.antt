use Rattle.escrow_exact.proofs.Stores.{stores_admit_the_safe}
use Rattle.escrow_exact.proofs.laws.stores_admit_the_safe.Goals as goal

pub returns : goal.returns
returns c = stores_admit_the_safe c.legal_ends_are_safe.ensures
