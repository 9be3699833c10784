use Rattle.std.proofs.Common.{refl}
use Rattle.table_checker.proofs.Yeses.{reason-of}
use Rattle.table_checker.proofs.checker.check_commuting.Goals as goal

pub returns-in-Some : goal.returns-in-Some
returns-in-Some c = (refl, reason-of c.args.kind c.args.file c.in-Some.refusal (rw c.in-Some.is at c.certificate_refusal.ensures c.args.kind))
