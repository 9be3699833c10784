use Rattle.std.proofs.Common.{arith}
use Rattle.history_judge.proofs.Lists.{ops_at-few}
use Rattle.history_judge.proofs.replay.count_at.Goals as goal

pub overflow_add-count : goal.overflow_add-count
overflow_add-count c =
    let few = ops_at-few c.args.object c.args.operations.now c.loop-operation.operation-index in
    omega (arith, few)
