-- Of the objects so far the states are known.
use Rattle.std.proofs.Common.{◌≡◌, take}
use Rattle.durable_store.specs.Epochs.{firsts}
use Rattle.durable_store.proofs.durable.first_states.Given as goal

abbrev pub invariant-loop-x : goal.invariant-loop-x
invariant-loop-x l = l.states.items ≡ firsts (take l.x l.store.types)
