-- Of the types so far the states are known.
use Rattle.std.proofs.Common.{◌≡◌, map, take}
use Rattle.std.specs.Arc.{arc_value}
use Rattle.durable_store.specs.Epochs.{firsts}
use Rattle.durable_store.proofs.new_file.states_of.Given as goal

abbrev pub invariant-loop-checked : goal.invariant-loop-checked
invariant-loop-checked l = l.states.items ≡ firsts (map arc_value (take l.checked-index l.types))
