use Rattle.std.proofs.Common.{◌∙◌}
use Rattle.op_locks.specs.Locks.{is_held_by}
use Rattle.op_locks.proofs.op_locks.OpLocks.release.Goals as goal

pub returns-clause-list : goal.returns-clause-list
returns-clause-list c = c.keep.ensures.list ∙ c.keeps_none.ensures (is_held_by c.args.t) c.args.self.now.held
