use Rattle.line_text.proofs.Order.{AreInOrder-from}
use Rattle.line_text.proofs.laws.accepted_in_order.Goals as goal

pub returns : goal.returns
returns g c = λ rules items accepted. AreInOrder-from rules items accepted
