use Rattle.serial_order.proofs.Examples.{one_way-doesnt_look}
use Rattle.serial_order.proofs.worked.the_kept_state_may_allow_less.Goals as goal

-- the serial state doesn't look like the kept one
pub returns-clause-other_way : goal.returns-clause-other_way
returns-clause-other_way c = one_way-doesnt_look
