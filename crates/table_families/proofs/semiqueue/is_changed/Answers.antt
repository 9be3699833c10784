use Rattle.std.proofs.Common.{arith}
use Rattle.table_families.proofs.QueueStates.{differ-front, rest-decides}
use Rattle.table_families.proofs.semiqueue.is_changed.Goals as goal

pub returns-then-ne : goal.returns-then-ne
returns-then-ne c = differ-front c.args.other.now c.args.counts.now c.args.i c.args.count c.if-ne.ensures

pub returns : goal.returns
returns c = rest-decides c.args.other.now c.args.counts.now c.args.i c.args.count c.eq.result c.requires (omega arith) (omega arith) c.if-ne.ensures c.eq.ensures
