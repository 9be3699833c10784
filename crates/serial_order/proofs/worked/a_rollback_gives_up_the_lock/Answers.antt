use Rattle.serial_order.proofs.Examples.{lock-may_be_busy}
use Rattle.serial_order.proofs.worked.a_rollback_gives_up_the_lock.Goals as goal

-- a call may be answered to be busy with the transaction that holds the lock
pub returns-clause-busy : goal.returns-clause-busy
returns-clause-busy c = lock-may_be_busy
