use Rattle.outputs.proofs.Turns.{Puts-append}
use Rattle.key_commands.proofs.prepared_list.put_objects.Goals as goal

pub returns : goal.returns
returns g c = Puts-append c.texts_in_turn.ensures.joined c.in_ok-put_each_object.ensures c.put.ensures
