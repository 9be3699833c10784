use Rattle.outputs.proofs.Turns.{Puts-exit_at}
use Rattle.key_commands.specs.Prepared.{number_after_space}
use Rattle.key_commands.proofs.prepared_list.put_each_object.Goals as goal

pub returns-in_err-put_object : goal.returns-in_err-put_object
returns-in_err-put_object g c =
    Puts-exit_at c.items_in_turn.ensures number_after_space c.args.objects.now c.loop-x.x-index _ c.loop-x-test.true c.loop-x.invariant c.in_err-put_object.ensures c.from_residual.ensures.1
