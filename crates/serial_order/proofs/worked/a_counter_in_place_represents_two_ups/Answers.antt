use Rattle.std.proofs.Common.{[], ◌∷◌, refl}
use Rattle.type_table.specs.Table.{next}
use Rattle.serial_order.specs.Examples.{entry}
use Rattle.serial_order.proofs.worked.a_counter_in_place_represents_two_ups.Goals as goal

-- base is the state after what the first transaction did
pub returns-clause-settled : goal.returns-clause-settled
unfolding next
returns-clause-settled c = record { past = entry 0 0 0 ∷ []; reached = refl; whole = refl; ended = (refl, tt); flags = (refl, tt) }
