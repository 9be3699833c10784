use Rattle.std.proofs.Common.{map}
use Rattle.declared_types.specs.Declarations.{table_of}
use Rattle.history_audit.proofs.Gathered.{each-there}
use Rattle.history_audit.proofs.in_order.audit_in_order.Goals as goal

pub run_in_order-requires-clause-there : goal.run_in_order-requires-clause-there
run_in_order-requires-clause-there c = each-there (map (λ t. table_of t.now) c.args.types.now) c.args.events.now c.in-Ok.committed c.in-Ok.ensures.all
