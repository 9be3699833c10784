use Rattle.outputs.proofs.Turns.{Puts-append}
use Rattle.serving.proofs.held_text.put_held.Goals as goal

pub returns : goal.returns
returns g c = Puts-append c.texts_in_turn.ensures.joined c.in_ok-put_held_lines.ensures c.put_done.ensures
