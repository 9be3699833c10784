use Rattle.std.proofs.Common.{ℕ, Option, sym, subst}
use Rattle.exact_tables.specs.Tell.{IsDistance}
use Rattle.pair_needs.proofs.Parting.{told-undo, told-deferred}
use Rattle.pair_needs.proofs.ends.told_length.Goals as goal

pub returns-in-Undo : goal.returns-in-Undo
returns-in-Undo c =
    rw c.in-Undo.is (told-undo c.args.table.now c.args.held c.args.requested c.between.result
    (subst (λ (o : Option ℕ). IsDistance c.args.table.now c.args.held c.args.requested o) (sym c.between.ensures) (c.requires.distances.each c.args.held c.args.requested c.requires.held c.requires.requested)))

pub returns-in-Intentions : goal.returns-in-Intentions
returns-in-Intentions c =
    rw (c.in-Intentions.is, c.lesser.ensures) (told-deferred c.args.table.now c.args.held c.args.requested c.between-one_way.result c.between-other_way.result
    (subst (λ (o : Option ℕ). IsDistance c.args.table.now c.args.held c.args.requested o) (sym c.between-one_way.ensures) (c.requires.distances.each c.args.held c.args.requested c.requires.held c.requires.requested))
    (subst (λ (o : Option ℕ). IsDistance c.args.table.now c.args.requested c.args.held o) (sym c.between-other_way.ensures) (c.requires.distances.each c.args.requested c.args.held c.requires.requested c.requires.held)))
