-- The transactions so far are told with their objects.
use Rattle.std.proofs.Common.{take}
use Rattle.event_text.specs.EventText.{events_of_kinds}
use Rattle.key_commands.specs.Prepared.{AreHeldTransactions}
use Rattle.key_commands.proofs.held_transactions.held_transactions.Given as goal

abbrev pub invariant-loop-one : goal.invariant-loop-one
invariant-loop-one l = AreHeldTransactions (events_of_kinds l.happened) (take l.one-index l.prepared) l.told.items
