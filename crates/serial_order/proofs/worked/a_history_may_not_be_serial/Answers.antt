use Rattle.std.proofs.Common.{refl}
use Rattle.std.proofs.lemmas.Bool.{false≢true}
use Rattle.type_table.specs.Table.{next}
use Rattle.serial_order.specs.Examples.{undo_counter}
use Rattle.serial_order.proofs.worked.a_history_may_not_be_serial.Goals as goal

-- counting down isn't legal at 0
pub returns-clause-illegal : goal.returns-clause-illegal
unfolding next
returns-clause-illegal c = λ serial. false≢true (serial 0 undo_counter refl)
