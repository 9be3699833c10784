use Rattle.std.proofs.Common.{[], ◌∷◌, refl, lit<}
use Rattle.std.proofs.lemmas.Bool.{false≢true}
use Rattle.type_table.specs.Examples.{one_way}
use Rattle.equi_cert.specs.Examples.{related_by}
use Rattle.exact_tables.proofs.worked.an_incomplete_relation_is_not_exact.Goals as goal

pub returns : goal.returns
returns c = λ exact. false≢true
    ((exact 1 0).1 (lit< tt, lit< tt, c.simulation_looks.ensures one_way (related_by 5 ((1, 0) ∷ (3, 2) ∷ [])) 1 0 c.next_states_are_looked_at.ensures.inside refl))
