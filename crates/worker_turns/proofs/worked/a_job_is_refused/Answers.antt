use Rattle.std.proofs.Common.{inl, inr, refl, arith}
use Rattle.serial_order.specs.declared.refusal.Refusal.TheVariants.{NoObject, NoMemory}
use Rattle.worker_turns.proofs.Examples.{first-refused}
use Rattle.worker_turns.proofs.worked.a_job_is_refused.Goals as goal

-- for the fault of its second call
pub returns-clause-refused : goal.returns-clause-refused
returns-clause-refused c = first-refused 1 NoObject (omega arith) (inl refl)

-- or as memory was refused
pub returns-clause-memory : goal.returns-clause-memory
returns-clause-memory c = first-refused 1 NoMemory (omega arith) (inr (inr refl))
