use Rattle.std.proofs.Common.{map, length}
use Rattle.declared_types.specs.Declarations.{table_of}
use Rattle.history_judge.proofs.Replayed.{stopped-within}
use Rattle.history_judge.proofs.serial_run.SerialRun.replay.Goals as goal

pub illegal_at-self-requires : goal.illegal_at-self-requires
illegal_at-self-requires c =
    stopped-within (map (λ t. table_of t.now) c.args.types.now) _ c.args.operations.now (length c.args.operations.now) c.replay-stop.new.states.items c.replay-stop.result c.replay-stop.ensures.replayed
