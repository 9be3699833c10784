use Rattle.std.proofs.Common.{◌≡◌, take}
use Rattle.store.proofs.DoneAgain.{with_history}
use Rattle.store.proofs.store.Store.redone.Given as goal

abbrev pub invariant-loop-event : goal.invariant-loop-event
invariant-loop-event g l = l.self ≡ with_history l.fn.self (take l.event-index l.events)
