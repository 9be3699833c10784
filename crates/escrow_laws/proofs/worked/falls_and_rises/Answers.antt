use Rattle.std.proofs.Common.{[], ◌∷◌, refl}
use Rattle.type_table.specs.Table.{next}
use Rattle.escrow_laws.specs.Bounds.{amounts_of}
use Rattle.escrow_laws.specs.Examples.{five_table, five_ops}
use Rattle.escrow_laws.proofs.worked.falls_and_rises.Goals as goal

pub returns-clause-lowest : goal.returns-clause-lowest
unfolding next
returns-clause-lowest c = c.fall_is_lowest.ensures five_table (amounts_of five_ops) 3 (0 ∷ 1 ∷ []) (c.bounds_are_numeric.ensures five_table 5 five_ops c.these_are_numeric.ensures.of_five) refl

pub returns-clause-highest : goal.returns-clause-highest
unfolding next
returns-clause-highest c = c.rise_is_highest.ensures five_table (amounts_of five_ops) 3 (0 ∷ 1 ∷ []) (c.bounds_are_numeric.ensures five_table 5 five_ops c.these_are_numeric.ensures.of_five) refl
