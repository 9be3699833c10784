use Rattle.std.proofs.Common.{codes, refl}
use Rattle.type_table.specs.Table.{next}
use Rattle.serial_order.specs.declared.command.Command.TheVariants.{Call}
use Rattle.store.proofs.worked.an_event_is_made_or_not.Goals as goal

-- by the call that counts up
pub returns-clause-made : goal.returns-clause-made
unfolding next
returns-clause-made c = record { command = Call 0 1 (codes "inc:1"); accepted = refl; makes = refl }
