use Rattle.std.proofs.Common.{ℕ, subst, arith}
use Rattle.type_table.specs.ConflictTable.{IsSquare}
use Rattle.exact_tables.proofs.AlikePairs.{exact-all}
use Rattle.exact_tables.proofs.distances.Distances.relation.Goals as goal

pub returns-clause-exact : goal.returns-clause-exact
returns-clause-exact c =
    exact-all c.args.table.now c.args.self.now c.loop-s.s c.in_ok-relation.relation c.loop-s.relation c.requires
    (omega (arith, c.states-states.ensures.exact, c.loop-s-test.false))
    (subst (λ (n : ℕ). IsSquare n c.loop-s.relation) c.requires.states c.loop-s.invariant.square)
    (λ a b a_in b_in. c.in_ok-relation.ensures.pairs a b (omega (arith, a_in, c.states-states.ensures.exact)) (omega (arith, b_in, c.states-states.ensures.exact)))
    c.loop-s.invariant.pairs
