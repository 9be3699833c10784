use Rattle.std.proofs.Common.{[], ◌++◌, inl, refl, arith}
use Rattle.serial_order.specs.declared.refusal.Refusal.TheVariants.{NoObject}
use Rattle.worker_turns.specs.Examples.{in_the_way, both_made, first_made}
use Rattle.worker_turns.proofs.Examples.{second-commits, first-refused}
use Rattle.worker_turns.proofs.worked.parts_are_in_order.Goals as goal

-- the first job was tried twice, and the second was refused
pub returns-clause-told : goal.returns-clause-told
returns-clause-told c =
    (in_the_way ++ both_made, first_made, refl, second-commits, (first_made, [], refl, first-refused 2 NoObject (omega arith) (inl refl), refl))
