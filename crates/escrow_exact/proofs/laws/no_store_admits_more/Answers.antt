use Rattle.escrow_exact.proofs.Stores.{no_store_admits_more}
use Rattle.escrow_exact.proofs.laws.no_store_admits_more.Goals as goal

pub returns : goal.returns
returns c = no_store_admits_more c.escrow_admits_the_safe.ensures c.stores_admit_the_safe.ensures
