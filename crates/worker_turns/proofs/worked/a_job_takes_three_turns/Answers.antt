use Rattle.std.proofs.Common.{inl, refl}
use Rattle.object_trait.specs.declared.event.EventKind.TheVariants.{Op}
use Rattle.worker_turns.proofs.Examples.{up-second}
use Rattle.worker_turns.proofs.worked.a_job_takes_three_turns.Goals as goal

-- its call has a reply
pub returns-clause-calls : goal.returns-clause-calls
returns-clause-calls c = inl (Op 0 0 1, up-second 0, refl, refl)
