use Rattle.std.proofs.Common.{refl}
use Rattle.table_families.proofs.AccountFacts.{account-table}
use Rattle.table_families.proofs.account.make_account.Goals as goal

pub make_file-requires-clause-family : goal.make_file-requires-clause-family
make_file-requires-clause-family c = account-table c.args.cap c.args.amounts.now (c.if-not-are_amounts.ensures.0 refl) (c.if-not-fits.ensures.0 refl)
