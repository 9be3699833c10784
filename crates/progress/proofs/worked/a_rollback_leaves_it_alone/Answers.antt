use Rattle.std.proofs.Common.{refl, arith}
use Rattle.serial_order.specs.Examples.{entry}
use Rattle.progress.proofs.worked.a_rollback_leaves_it_alone.Goals as goal

pub returns-clause-told : goal.returns-clause-told
returns-clause-told c = record { open_now = refl; other = refl; held = entry 0 0 0; survives = (0, omega arith, refl); by = refl }
