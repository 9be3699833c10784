use Rattle.outputs.proofs.Puts.{Puts-append}
use Rattle.outputs.proofs.pieces.put_word.Goals as goal

pub returns : goal.returns
returns g c = Puts-append c.in_ok-put.ensures c.put-2.ensures
