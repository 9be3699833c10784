use Rattle.std.proofs.Common.{[], ◌∷◌, refl, arith}
use Rattle.std.proofs.lemmas.Bool.{false≢true}
use Rattle.type_table.specs.Table.{next}
use Rattle.escrow_laws.specs.Bounds.{amounts_of}
use Rattle.escrow_laws.specs.Examples.{five_table, five_ops, two_did}
use Rattle.escrow_laws.proofs.Examples.{firm-two}
use Rattle.escrow_laws.proofs.worked.two_takes.Goals as goal

pub returns-clause-at_four : goal.returns-clause-at_four
unfolding next
returns-clause-at_four c =
    firm-two c.firm_after_apply.ensures c.nothing_keeps.ensures five_table (amounts_of five_ops) 4 (1 ∷ []) (1 ∷ []) (c.bounds_are_numeric.ensures five_table 5 five_ops c.these_are_numeric.ensures.of_five) refl refl

pub returns-clause-safe : goal.returns-clause-safe
unfolding next
returns-clause-safe c =
    let numeric = c.bounds_are_numeric.ensures five_table 5 five_ops c.these_are_numeric.ensures.of_five in
    c.firm_is_safe.ensures five_table (amounts_of five_ops) 4 (two_did (1 ∷ []) (1 ∷ [])) numeric
    (firm-two c.firm_after_apply.ensures c.nothing_keeps.ensures five_table (amounts_of five_ops) 4 (1 ∷ []) (1 ∷ []) numeric refl refl)

-- the other one may take it down to 1
pub returns-clause-at_three : goal.returns-clause-at_three
unfolding next
returns-clause-at_three c = λ firm. false≢true (firm 1 2 1 (omega arith) (omega arith))
