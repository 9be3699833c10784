use Rattle.std.proofs.Common.{sym}
use Rattle.table_checker.proofs.checker.certificate_refusal.Goals as goal

pub returns-in-Err : goal.returns-in-Err
returns-in-Err c = λ kind. (sym c.if-not-begins_inside.ensures, c.in_default.ensures, c.in-Err.ensures.fault)
