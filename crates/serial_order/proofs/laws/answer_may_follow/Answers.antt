use Rattle.serial_order.proofs.Answers.{answer_may_follow}
use Rattle.serial_order.proofs.laws.answer_may_follow.Goals as goal

-- the answer of a call is one that the machine allows
pub returns : goal.returns
returns c = answer_may_follow
